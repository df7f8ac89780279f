pub mod ReadingLaws
pub mod ReadingSentences
