pub mod Asked
pub mod Reads
pub mod Refused
pub mod Table
