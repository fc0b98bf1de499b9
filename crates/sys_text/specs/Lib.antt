pub mod Grown
pub mod Printed
pub mod Shown
