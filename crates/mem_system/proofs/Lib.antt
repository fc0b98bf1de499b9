pub mod Paths
mod Parts
