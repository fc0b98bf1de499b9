pub mod Again
pub mod Fillings
pub mod Left
pub mod Packs
pub mod Repacks
