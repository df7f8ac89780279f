pub mod Start
pub mod Extending
pub mod Reading
