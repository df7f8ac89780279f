pub mod CallLaws
pub mod Undone
