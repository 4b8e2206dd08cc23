pub mod Bytes
pub mod Outputs
pub mod Writing
