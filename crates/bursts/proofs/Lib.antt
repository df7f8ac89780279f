pub mod Struck
pub mod Relied
