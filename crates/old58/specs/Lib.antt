pub mod Read
pub mod Record
