pub mod Blocks
pub mod Fault
pub mod ImagePath
pub mod Lines
pub mod PieceNames
