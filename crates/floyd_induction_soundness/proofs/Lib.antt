-- Lemmas on proofs by induction.
pub mod Inducting
pub mod Places
