-- Lemmas on clauses of predicates.
pub mod Entries
pub mod Finding
pub mod Meeting
pub mod Opening
pub mod Parting
pub mod Sorting
