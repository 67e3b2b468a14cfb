pub mod Env
pub mod Rows
pub mod State
pub mod Scope
pub mod Leaf
pub mod Body
