pub mod Contents
pub mod Lines
pub mod Magic
pub mod Writing
