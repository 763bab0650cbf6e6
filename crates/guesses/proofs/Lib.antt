mod Told
mod Judged
pub mod Trees
