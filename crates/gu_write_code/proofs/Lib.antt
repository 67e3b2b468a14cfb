pub mod Kinded
pub mod Codes
pub mod Entries
pub mod Examples
