pub mod Changes
pub mod ChangesLaws
