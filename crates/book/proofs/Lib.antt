pub mod Machine
pub mod closing
pub mod tables
pub mod sentences
pub mod calls
pub mod rows
