-- Definitions that contracts cite.
pub mod StartClauses
