pub mod Fragments
pub mod Mkbootimg
pub mod Rejected
pub mod Tools
pub mod UnpackBootimg
