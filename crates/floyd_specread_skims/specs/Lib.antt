-- Definitions that contracts cite.
pub mod Skims
