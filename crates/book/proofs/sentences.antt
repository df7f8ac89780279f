pub mod Sentences
pub mod Repairs
pub mod Alive
pub mod Marked
