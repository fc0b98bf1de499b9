pub mod Agreeing
pub mod Counts
pub mod Ends
pub mod FirstPlaces
pub mod LeadingZeros
pub mod Paddings
pub mod TextEnds
