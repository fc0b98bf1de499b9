pub mod Places
pub mod Taken
pub mod Histories
