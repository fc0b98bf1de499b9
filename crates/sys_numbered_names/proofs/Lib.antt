pub mod Numbered
pub mod Numbering
