pub mod Modem64
pub mod Rates
pub mod Here
pub mod numbers
pub mod captures
pub mod readings
pub mod engine
pub mod calls
