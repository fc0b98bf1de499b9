pub mod Placer
pub mod Placed
pub mod Whole
pub mod Unfinished
pub mod Calls
pub mod Segment
pub mod Piece
