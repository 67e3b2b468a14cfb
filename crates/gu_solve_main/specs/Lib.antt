pub mod Work
pub mod Layers
