pub mod Codes
pub mod Floors
pub mod Found
pub mod Grades
pub mod Lowered
