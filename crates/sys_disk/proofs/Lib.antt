pub mod Amongs
pub mod Closings
pub mod Failings
pub mod Worlds
