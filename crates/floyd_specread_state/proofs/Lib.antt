pub mod Orders
pub mod ModuleLemmas
pub mod Scopes
