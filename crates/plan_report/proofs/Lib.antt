pub mod Agreeing
pub mod Drawing
pub mod Growing
pub mod Telling
