pub mod Board
pub mod Fields
pub mod Fragment
pub mod Kind
pub mod Loading
pub mod Options
pub mod OsWord
pub mod Unescaped
