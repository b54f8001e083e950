-- Definitions that contracts cite.
pub mod Locals
pub mod LocalClauses
pub mod Statements
pub mod WalkClauses
pub mod PlaceClauses
