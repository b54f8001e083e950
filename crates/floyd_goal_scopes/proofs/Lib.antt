-- Lemmas on what is free in what is well formed.
pub mod Goals
pub mod Parts
pub mod Terms
