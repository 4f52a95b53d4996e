pub mod ReadBack
pub mod Writers
