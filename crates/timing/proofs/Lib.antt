pub mod Again
pub mod Drawing
pub mod Places
pub mod Rows
