pub mod Bytes
pub mod Fronts
pub mod Pasts
pub mod Puts
