pub mod Chance
pub mod Most
