-- Lemmas on parts of memory.
pub mod Along
pub mod Regions
