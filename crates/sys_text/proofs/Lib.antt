pub mod Calls
pub mod Holding
pub mod Letters
pub mod Printing
