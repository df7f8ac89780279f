pub mod ClosingLaws
pub mod Report
