-- Definitions that contracts cite.
pub mod Binders
