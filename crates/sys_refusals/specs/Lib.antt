pub mod Blamed
pub mod Host
pub mod Paths
pub mod Said
