pub mod Loops
pub mod Numbers
pub mod Walk
