pub mod Blockless
pub mod Typed
