pub mod AospNumber
pub mod NumberWord
pub mod WordFile
