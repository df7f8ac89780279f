pub mod Asked
pub mod Decoding
