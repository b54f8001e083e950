-- Definitions that contracts cite.
pub mod AroundClauses
pub mod Removal
pub mod RemovalClauses
