-- Definitions that contracts cite.
pub mod Clauses
pub mod Patterns
