pub mod Quotient
pub mod Showing
