pub mod Parts
pub mod Dividing
