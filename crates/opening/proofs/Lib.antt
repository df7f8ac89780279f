pub mod Delivering
pub mod Checked
