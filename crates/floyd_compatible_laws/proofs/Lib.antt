-- Lemmas on places of objects.
pub mod Agreeing
pub mod Parts
pub mod Reading
