pub mod Encoding
pub mod Rates
pub mod Calls
pub mod Evaluation
pub mod Extraction
pub mod CallLaws
pub mod Nodes
pub mod Bench
