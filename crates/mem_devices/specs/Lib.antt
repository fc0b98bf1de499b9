pub mod Crash
pub mod FrameLaws
pub mod Inner
pub mod Testing
