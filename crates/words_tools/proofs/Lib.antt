pub mod Behind
pub mod Calling
pub mod Grouping
pub mod Parting
pub mod Rejecting
pub mod Standing
pub mod Verbose
