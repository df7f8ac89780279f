pub mod Holds
pub mod Step
pub mod Terms
pub mod Start
pub mod Settled
pub mod Settling
pub mod Eliminating
pub mod Parts
