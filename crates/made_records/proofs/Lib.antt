pub mod Restandardising
pub mod Made
