pub mod Writers
pub mod ReadBack
