pub mod Rows
pub mod Turns
pub mod Opening
pub mod Merging
pub mod Running
pub mod Sizing
pub mod Passing
