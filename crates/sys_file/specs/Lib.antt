pub mod File
pub mod Folders
pub mod Openings
pub mod Past
pub mod Stats
pub mod System
