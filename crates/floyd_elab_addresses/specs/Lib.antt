-- Definitions that contracts cite.
pub mod Addresses
pub mod Flags
pub mod SetClauses
pub mod PartClauses
