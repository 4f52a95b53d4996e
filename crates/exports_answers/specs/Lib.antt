pub mod Told
pub mod Writing
