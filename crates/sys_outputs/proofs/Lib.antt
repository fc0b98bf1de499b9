pub mod Holes
pub mod Late
