pub mod ByItself
pub mod Cursors
pub mod Expecting
pub mod Records
