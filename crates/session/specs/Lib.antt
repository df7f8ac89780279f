pub mod View
pub mod Calls
pub mod Laws
pub mod Answering
pub mod Table
pub mod AnsweringLaws
pub mod Numbers
