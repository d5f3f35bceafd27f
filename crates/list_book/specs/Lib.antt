pub mod Entries
pub mod Meant
pub mod Order
pub mod Outside
