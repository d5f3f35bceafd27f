pub mod Count
pub mod Kept
pub mod Means
pub mod Moves
pub mod Outcomes
pub mod Pairs
pub mod Searched
