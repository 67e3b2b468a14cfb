pub mod Marks
pub mod Unread
