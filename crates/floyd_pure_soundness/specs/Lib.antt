-- Definitions that contracts cite.
pub mod Adding
pub mod Rows
