pub mod Table
pub mod Timed
