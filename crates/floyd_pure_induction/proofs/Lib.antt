-- Lemmas on induction.
pub mod MarkLemmas
