-- Lemmas on calls of FUNs.
pub mod Taking
