pub mod Ends
pub mod Follows
pub mod Given
pub mod Gives
