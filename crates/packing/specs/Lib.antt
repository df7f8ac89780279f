pub mod Bits
pub mod Sixteens
