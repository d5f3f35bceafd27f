pub mod Names
pub mod Order
pub mod Points
pub mod Ratings
