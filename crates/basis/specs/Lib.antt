pub mod Choice
pub mod Step
