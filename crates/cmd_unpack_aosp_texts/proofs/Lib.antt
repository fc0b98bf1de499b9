pub mod Boards
pub mod Listed
pub mod Quoting
