pub mod Frames
pub mod Smallest
pub mod Spans
