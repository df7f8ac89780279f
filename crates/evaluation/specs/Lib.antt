pub mod Broad
pub mod Evaluating
