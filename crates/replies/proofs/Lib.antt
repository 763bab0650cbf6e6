mod Numbers
pub mod Replies
