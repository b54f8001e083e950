-- Definitions that contracts cite.
pub mod Rows
pub mod Conditions
