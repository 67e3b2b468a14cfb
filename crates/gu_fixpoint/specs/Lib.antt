pub mod Track
pub mod Hands
