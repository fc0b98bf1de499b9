pub mod Blames
pub mod Saying
