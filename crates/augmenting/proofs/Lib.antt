pub mod Counts
pub mod Passing
pub mod Arrays
pub mod Blocked
pub mod Whole
pub mod Gathered
pub mod Necessity
