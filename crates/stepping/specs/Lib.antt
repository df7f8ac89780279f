pub mod Choice
pub mod Choosing
pub mod Step
pub mod Extending
pub mod Extended
pub mod Starting
pub mod Cells
pub mod Blocks
