pub mod Answers
pub mod Files
pub mod Lines
pub mod Promises
pub mod Reasons
pub mod Standing
pub mod Told
