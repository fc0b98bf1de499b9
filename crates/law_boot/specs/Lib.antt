pub mod Said
pub mod WayBack
