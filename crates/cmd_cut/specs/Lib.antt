pub mod Cutting
pub mod Leaving
pub mod Sparsing
