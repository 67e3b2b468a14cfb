pub mod Standing
pub mod Shares
pub mod Limits
pub mod ReadsModule
pub mod Parts
pub mod Forms
pub mod Rows
pub mod Seen
