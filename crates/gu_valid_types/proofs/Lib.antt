pub mod Pairs
pub mod Supers
