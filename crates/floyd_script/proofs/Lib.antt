pub mod ReadingLemmas
pub mod ScriptExact
