pub mod Escapes
pub mod FilesSay
pub mod FragmentsSay
pub mod Held
pub mod ImagesSay
pub mod PackedAgain
pub mod PackedFields
pub mod WordsSay
