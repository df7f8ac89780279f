pub mod Superframe
pub mod Checks
pub mod Hard
pub mod Laws
pub mod Built
pub mod Burst
