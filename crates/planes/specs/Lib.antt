pub mod Lanes
pub mod Elements
pub mod Product
pub mod Arrays
pub mod Words
pub mod Rows
