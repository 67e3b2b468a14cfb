pub mod Starting
pub mod Bounding
pub mod Busy
pub mod Running
