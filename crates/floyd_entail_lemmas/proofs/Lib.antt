-- Lemmas on the command that uses a lemma.
pub mod ApplyLemmas
