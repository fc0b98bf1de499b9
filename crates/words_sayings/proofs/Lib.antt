pub mod InTurn
pub mod Mapped
pub mod ReadSteps
