pub mod Distances
pub mod Here
