-- Definitions that contracts cite.
pub mod SameClauses
