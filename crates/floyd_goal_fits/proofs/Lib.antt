-- Lemmas on terms that stand in the places of variables in well-formed goals.
pub mod Goals
pub mod Parts
pub mod Suiting
