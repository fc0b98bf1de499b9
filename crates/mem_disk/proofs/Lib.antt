pub mod Files
pub mod Images
pub mod Numbered
pub mod Spools
pub mod Sums
