-- Definitions that contracts cite.
pub mod FillClauses
pub mod Mapped
