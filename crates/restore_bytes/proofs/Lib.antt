pub mod Held
pub mod Standing
