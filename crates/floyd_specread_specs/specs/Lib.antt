-- Definitions that contracts cite.
pub mod Names
pub mod Specifications
pub mod Texts
