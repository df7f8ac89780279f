pub mod Terms
pub mod Reducing
pub mod Solving
