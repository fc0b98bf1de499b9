pub mod Behind
pub mod Identity
