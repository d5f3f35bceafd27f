pub mod Numbers
pub mod Rules
pub mod Firsts
pub mod Buffers
