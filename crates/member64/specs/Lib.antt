pub mod Member64
pub mod Planes64
