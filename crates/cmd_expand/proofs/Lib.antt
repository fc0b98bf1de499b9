pub mod CutNames
pub mod Files
pub mod GivenSpans
pub mod Lays
pub mod Lists
pub mod Opens
pub mod Overlays
pub mod Turns
