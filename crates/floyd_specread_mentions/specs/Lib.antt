-- Definitions that contracts cite.
pub mod Mentioned
