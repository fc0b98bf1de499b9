pub mod Commands
pub mod Ordered
