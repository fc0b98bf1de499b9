pub mod Said
pub mod VerifySteps
pub mod Come
pub mod RawSteps
pub mod Flashed
