pub mod Inside
pub mod Outcomes
pub mod Standing
pub mod Upward
