pub mod Bench
pub mod BitsLaws
