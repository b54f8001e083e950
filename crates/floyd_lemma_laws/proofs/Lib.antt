-- Lemmas on lemmas at terms.
pub mod Taking
