pub mod Boards
pub mod Calls
pub mod Causes
pub mod Ranging
pub mod Refusals
pub mod Sides
pub mod Words
