pub mod Checks
pub mod Opened
pub mod Asked
pub mod Decoding
pub mod Answered
pub mod Tabled
pub mod Below
pub mod Made
