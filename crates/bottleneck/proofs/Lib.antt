pub mod Ranks
pub mod Rows
pub mod Tops
pub mod Lowering
pub mod Progress
pub mod Founds
