pub mod Closes
pub mod Images
pub mod Magics
pub mod Outputs
