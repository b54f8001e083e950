-- Definitions that contracts cite.
pub mod Goals
pub mod NextClauses
pub mod Parts
