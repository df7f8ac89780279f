pub mod Binary
pub mod BinaryField
pub mod Gf16
pub mod Field16
pub mod Carryless
