-- Definitions that contracts cite.
pub mod Modules
