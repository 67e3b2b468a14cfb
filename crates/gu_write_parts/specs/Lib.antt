pub mod Limit
pub mod Room
