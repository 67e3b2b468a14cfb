pub mod Bytewise
pub mod LeastSigned
pub mod LeastUnsigned
pub mod Passing
pub mod Powers
pub mod Signed
pub mod Unsigned
pub mod Writing
