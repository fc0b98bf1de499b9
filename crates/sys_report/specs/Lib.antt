pub mod Moved
pub mod Shows
