pub mod Vectors
pub mod Names
pub mod Answering
