-- Lemmas on places of memory, and on parts that are put in the place of one.
pub mod Places
pub mod Putting
