pub mod EdgeNumbers
