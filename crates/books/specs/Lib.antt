pub mod Changes
pub mod Checked
pub mod Limits
pub mod Meaning
