pub mod Layout
pub mod Values
