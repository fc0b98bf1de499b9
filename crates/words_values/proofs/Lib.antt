pub mod NumberWords
pub mod WordFiles
