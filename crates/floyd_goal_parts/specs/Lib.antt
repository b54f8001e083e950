-- Definitions that contracts cite.
pub mod Rows
pub mod Sources
pub mod Writing
