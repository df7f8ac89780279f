pub mod Sentences
pub mod Marked
pub mod Repairs
pub mod Alive
