pub mod Seen
pub mod Settling
pub mod Splits
pub mod Records
pub mod Room
pub mod Raising
pub mod Reading
pub mod Serving
