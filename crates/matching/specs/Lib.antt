pub mod Answers
pub mod Owned
pub mod Plans
pub mod Theorems
pub mod Written
