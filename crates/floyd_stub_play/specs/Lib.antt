-- What contracts cite.
pub mod Derivation
pub mod PlayClauses
pub mod Rows
