pub mod RoundTrip
pub mod WritingLaws
pub mod Captured
