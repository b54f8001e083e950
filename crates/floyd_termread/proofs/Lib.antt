pub mod BracketLemmas
pub mod ReadingLemmas
