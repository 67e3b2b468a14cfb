pub mod Closing
pub mod Rising
pub mod Nothing
