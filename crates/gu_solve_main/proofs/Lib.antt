pub mod Layered
pub mod Fitting
