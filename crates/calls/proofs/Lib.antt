pub mod Follows
pub mod Alive
pub mod Undone
pub mod Demand3
pub mod Marked
pub mod Repaired
pub mod Shown
pub mod Tabled
