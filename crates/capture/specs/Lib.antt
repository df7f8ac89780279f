pub mod Calls
pub mod Laws
pub mod Rest
pub mod Delivering
