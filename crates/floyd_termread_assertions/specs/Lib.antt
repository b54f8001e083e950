-- Definitions that contracts cite.
pub mod Existentials
pub mod Assertions
pub mod BoundClauses
