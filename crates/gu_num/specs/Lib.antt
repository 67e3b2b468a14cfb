pub mod Laws
pub mod Numeric
