pub mod Sharp
pub mod Bench
