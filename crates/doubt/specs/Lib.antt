pub mod Keys
pub mod Picked
