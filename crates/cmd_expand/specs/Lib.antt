pub mod CutOf
pub mod Expanding
pub mod Overlaying
pub mod Steps
