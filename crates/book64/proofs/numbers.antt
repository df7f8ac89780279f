pub mod Bench
pub mod Sharp
pub mod Numbers
pub mod Faded
