pub mod Outside
pub mod Tracked
