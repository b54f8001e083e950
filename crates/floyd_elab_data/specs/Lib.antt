-- Definitions that contracts cite.
pub mod Constant
pub mod Contents
pub mod ItemClauses
