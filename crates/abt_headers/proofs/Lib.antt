pub mod BootLaws
pub mod BootParts
pub mod EntryLaws
pub mod Fields
pub mod Front
pub mod PageLaws
pub mod Places
pub mod VendorLaws
