pub mod Shown
pub mod Replies
