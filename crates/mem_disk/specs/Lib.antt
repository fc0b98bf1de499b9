pub mod Made
pub mod Memory
pub mod Spooled
pub mod Stored
