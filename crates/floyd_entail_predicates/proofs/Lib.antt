-- Lemmas on the rows of these commands.
pub mod FoldLemmas
pub mod UnfoldLemmas
