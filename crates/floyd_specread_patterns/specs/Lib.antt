-- Definitions that contracts cite.
pub mod Patterns
pub mod Binders
pub mod NameClauses
