-- Lemmas on clauses.
pub mod OpeningLemmas
