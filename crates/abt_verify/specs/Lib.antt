pub mod Standing
pub mod Fault
pub mod Comparing
pub mod Stepping
pub mod Verifying
pub mod Raw
pub mod Laws
