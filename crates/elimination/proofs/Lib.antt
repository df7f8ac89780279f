pub mod Monomials
pub mod Clearing
pub mod Keys
