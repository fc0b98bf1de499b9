pub mod Endings
pub mod Forward
