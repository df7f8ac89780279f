pub mod Result
pub mod Nearest
pub mod Answered
pub mod Better
