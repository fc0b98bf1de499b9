pub mod Counts
pub mod Looks
pub mod Loops
pub mod Shown
pub mod Told
pub mod UnpackSteps
pub mod Wholes
