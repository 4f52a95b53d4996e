pub mod Amounts
pub mod RoundTrip
pub mod Taken
