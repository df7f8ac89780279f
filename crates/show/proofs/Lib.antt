pub mod Cases
pub mod Showing
