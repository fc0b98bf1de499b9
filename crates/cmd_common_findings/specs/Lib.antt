pub mod Finding
pub mod LeftOut
pub mod Places
pub mod ReasonLines
pub mod Reasons
