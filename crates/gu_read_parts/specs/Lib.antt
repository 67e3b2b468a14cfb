pub mod Gives
pub mod Due
