pub mod Ground
pub mod Model
pub mod Demand3
pub mod Search
