mod TakenNames
mod Texts
mod Running
pub mod Answers
