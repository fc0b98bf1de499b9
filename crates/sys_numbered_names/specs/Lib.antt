pub mod Lesser
pub mod Numbers
