pub mod Ahead
pub mod Past
pub mod Places
pub mod Writes
