pub mod Order
mod Search
