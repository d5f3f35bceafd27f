pub mod Faults
pub mod Recorded
