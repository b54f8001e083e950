-- Definitions that contracts cite.
pub mod Starts
