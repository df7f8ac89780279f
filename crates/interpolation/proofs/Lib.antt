pub mod Extended
pub mod Starting
pub mod Shown
pub mod LeastRow
