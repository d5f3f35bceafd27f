pub mod FileOf
pub mod Laws
pub mod Layout
pub mod Rules
pub mod Words
