pub mod Adding
pub mod Closing
