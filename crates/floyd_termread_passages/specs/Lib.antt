-- Definitions that contracts cite.
pub mod Passages
pub mod PassageClauses
