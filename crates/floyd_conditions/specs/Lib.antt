-- Definitions that contracts cite.
pub mod Conditions
