pub mod Lanes
pub mod Elements
pub mod Product
pub mod Arrays
pub mod Rows
pub mod Multiples
