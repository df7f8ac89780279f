pub mod Fourths
pub mod Tabled
pub mod Turns
