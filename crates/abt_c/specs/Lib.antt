pub mod Told
pub mod Telling
pub mod Standing
pub mod Headers
pub mod Moving
pub mod Fields
