-- Definitions that contracts cite.
pub mod Proving
