pub mod readings
pub mod numbers
pub mod Rates
pub mod captures
pub mod calls
