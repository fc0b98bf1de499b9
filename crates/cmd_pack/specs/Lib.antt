pub mod Filling
pub mod Packing
pub mod Refusing
pub mod RefusingAgain
pub mod Repacking
