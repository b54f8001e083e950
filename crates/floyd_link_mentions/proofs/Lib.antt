-- Lemmas on rows and their lists, and on tables of names.
pub mod RowLemmas
pub mod TableLemmas
pub mod MentionLemmas
