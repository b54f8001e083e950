-- Definitions that contracts cite.
pub mod Cases
pub mod ToldClauses
