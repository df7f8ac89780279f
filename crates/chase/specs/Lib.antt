pub mod Places
pub mod Call
pub mod Laws
