pub mod Table
pub mod Below
pub mod Bits
pub mod TableSentences
