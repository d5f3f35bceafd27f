pub mod Assigned
pub mod Counting
pub mod Owners
pub mod Sets
