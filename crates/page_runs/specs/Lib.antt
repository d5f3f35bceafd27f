pub mod Asks
pub mod Live
pub mod Output
pub mod Slips
