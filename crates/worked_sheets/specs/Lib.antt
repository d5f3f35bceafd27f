pub mod Right
pub mod Sheets
