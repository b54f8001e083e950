-- Definitions that contracts cite.
pub mod BitClauses
pub mod Folding
