pub mod Work
pub mod Laws
pub mod Steps
pub mod Known
