-- Lemmas on addresses that are valid.
pub mod Validated
