pub mod Counts
pub mod Known
