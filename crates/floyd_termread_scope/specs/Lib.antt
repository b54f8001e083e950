-- Definitions that contracts cite.
pub mod Scopes
pub mod WrittenSorts
