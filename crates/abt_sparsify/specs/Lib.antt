pub mod Sparsify
