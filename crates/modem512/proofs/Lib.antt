pub mod Model
pub mod Demand3
pub mod Sessions
