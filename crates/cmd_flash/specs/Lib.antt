pub mod Files
pub mod Flashing
pub mod FlashingRaw
pub mod InPieces
pub mod Laying
pub mod Listing
pub mod Through
pub mod Verifying
