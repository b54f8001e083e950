-- Definitions that contracts cite.
pub mod Structural
pub mod JudgedClauses
