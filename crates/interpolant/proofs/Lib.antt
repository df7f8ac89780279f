pub mod OnKeys
pub mod Least
pub mod Reading
pub mod Bench
