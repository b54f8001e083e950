-- Lemmas on goals behind commands that look at items.
pub mod Apart
pub mod Predicates
pub mod Settled
