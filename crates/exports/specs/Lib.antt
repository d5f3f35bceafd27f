pub mod Kinds
pub mod Paging
pub mod Planning
pub mod Replies
pub mod Table
