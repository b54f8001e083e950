-- Lemmas on new variables of goals.
pub mod NewNames
