pub mod Replies
pub mod Dispatch
