pub mod BadBoards
pub mod Judging
pub mod Opening
pub mod Own
pub mod Parts
