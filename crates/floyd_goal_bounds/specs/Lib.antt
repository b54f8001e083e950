-- Definitions that contracts cite.
pub mod Bounds
