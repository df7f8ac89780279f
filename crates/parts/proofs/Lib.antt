pub mod Splitting
pub mod Shown
