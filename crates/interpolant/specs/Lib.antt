pub mod LeastQ
pub mod Meaning
pub mod OnKeys
pub mod Reading
pub mod Bench
