-- Lemmas on tables of names and of structs.
pub mod DuplicateLemmas
pub mod StructLemmas
pub mod UnresolvedLemmas
pub mod MainLemmas
