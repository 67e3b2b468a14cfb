pub mod Codes
pub mod Nested
pub mod Entries
pub mod Runs
pub mod Answers
