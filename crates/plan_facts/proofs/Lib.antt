pub mod Codes
pub mod Counted
pub mod Even
pub mod Exists
pub mod Finite
pub mod Lowest
pub mod Raised
pub mod Single
