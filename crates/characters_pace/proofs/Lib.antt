pub mod Carried
pub mod Checked
pub mod Halves
pub mod Tests
