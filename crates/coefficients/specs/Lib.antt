pub mod Moved
pub mod Reading
pub mod Fourths
pub mod Bytes
