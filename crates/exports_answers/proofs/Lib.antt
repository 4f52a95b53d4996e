pub mod Placing
pub mod Telling
