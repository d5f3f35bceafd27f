pub mod Codes
pub mod Reasons
