pub mod Boards
pub mod Fragments
pub mod OsWords
pub mod Escapes
