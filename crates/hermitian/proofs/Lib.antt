pub mod Decoding
pub mod Repair
pub mod Example
