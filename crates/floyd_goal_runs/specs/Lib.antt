-- Definitions that contracts cite.
pub mod Needing
