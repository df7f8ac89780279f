pub mod Engine
pub mod EngineLaws
pub mod Single
