pub mod Reading
pub mod ReadingLaws
pub mod ReadingSentences
