pub mod Multiplied
pub mod Unpacked
pub mod Raising
pub mod Moving
