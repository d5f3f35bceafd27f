pub mod Ranges
pub mod Plans
pub mod Sets
pub mod Sheets
