pub mod Copying
pub mod Lines
pub mod Unpacking
pub mod Writing
