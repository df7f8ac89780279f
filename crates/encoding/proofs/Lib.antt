pub mod Cases
pub mod Symbols
