pub mod Files
pub mod Info
pub mod Shell
pub mod Texts
pub mod Words
