pub mod Codes
pub mod Even
pub mod Plans
pub mod Sets
pub mod Single
