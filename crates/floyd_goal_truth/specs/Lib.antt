-- Definitions that contracts cite.
pub mod Laws
pub mod Scopes
pub mod Truths
