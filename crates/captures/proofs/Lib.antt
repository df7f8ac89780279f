pub mod Answered
pub mod Cases
