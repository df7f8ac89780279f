pub mod Ranged
pub mod Candidate
pub mod OpenFlags
