-- Definitions that contracts cite.
pub mod Parts
pub mod PartClauses
