-- Lemmas on lists that are compared one by one.
pub mod Pairs
pub mod Places
pub mod Wholes
