pub mod Sends
pub mod Zeros
