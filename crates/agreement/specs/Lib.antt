pub mod Agreement
pub mod Both
pub mod Faded
pub mod Frame
