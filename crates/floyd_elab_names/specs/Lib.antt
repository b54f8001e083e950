-- Definitions, and then words that only private clauses use.
pub mod Refusals
pub mod Refusing
pub mod Typing
pub mod Scopes
pub mod Types
pub mod Declarators
pub mod ChangeClauses
pub mod DeclaratorClauses
pub mod ListClauses
pub mod SiteClauses
pub mod StoredClauses
pub mod WrapClauses
