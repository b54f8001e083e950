-- Definitions that contracts cite.
pub mod Brackets
