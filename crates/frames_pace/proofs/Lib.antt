pub mod Cases
pub mod Parts
pub mod Whole
