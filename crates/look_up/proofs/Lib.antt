pub mod Searching
pub mod Found
