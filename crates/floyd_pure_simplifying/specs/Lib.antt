-- Definitions that contracts cite.
pub mod Simpl
