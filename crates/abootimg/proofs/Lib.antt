pub mod Asking
pub mod Called
pub mod Looks
pub mod Orders
pub mod Plain
pub mod Refusals
pub mod Statuses
pub mod Unpacks
