-- Definitions that contracts cite.
pub mod Holes
pub mod HolesClauses
pub mod Occurrences
pub mod Rewritten
