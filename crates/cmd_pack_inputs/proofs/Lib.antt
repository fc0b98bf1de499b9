pub mod Entries
pub mod Gathered
pub mod Openings
pub mod Owns
