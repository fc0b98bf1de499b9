pub mod Demo
pub mod Listed
pub mod Listing
