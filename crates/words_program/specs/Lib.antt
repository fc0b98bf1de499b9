pub mod Mistake
pub mod WordFiles
