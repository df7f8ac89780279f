pub mod Tabled
pub mod Turns
