-- Lemmas on formulas that a row writes.
pub mod Writing
pub mod Stating
