pub mod Lengths
pub mod Places
pub mod Rows
pub mod WholeFile
