pub mod Sparsing
pub mod SparseSteps
