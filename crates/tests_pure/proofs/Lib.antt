-- Lemmas on what is judged of goals.
pub mod KnownLemmas
pub mod ScopedLemmas
