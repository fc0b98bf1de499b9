pub mod Carried
pub mod Sections
pub mod Tellings
pub mod Moved
pub mod Owned
pub mod Texts
