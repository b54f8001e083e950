-- Lemmas on clauses that are well formed.
pub mod Folding
pub mod Forming
pub mod Leading
