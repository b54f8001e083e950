-- Lemmas on goals with a term in the place of a variable.
pub mod Scopes
pub mod Exchanged
pub mod Cases
