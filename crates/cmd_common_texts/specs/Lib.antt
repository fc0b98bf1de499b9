pub mod Info
pub mod Words
