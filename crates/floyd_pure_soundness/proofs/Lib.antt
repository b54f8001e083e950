-- Lemmas on rows that are sound.
pub mod Added
pub mod Arguments
pub mod Divided
pub mod Kept
