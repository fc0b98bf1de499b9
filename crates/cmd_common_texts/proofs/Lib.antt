pub mod Digits
pub mod Informing
pub mod Refusing
pub mod Turns
pub mod TextsOver
pub mod WordLists
