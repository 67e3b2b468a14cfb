pub mod Lookups
pub mod Pops
pub mod Takes
pub mod Leaves
pub mod Sets
pub mod Walks
pub mod Strays
pub mod Constants
