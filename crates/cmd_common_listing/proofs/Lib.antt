pub mod Counting
pub mod Demonstrated
pub mod Listed
