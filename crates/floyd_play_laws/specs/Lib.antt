-- Definitions that contracts cite.
pub mod Laws
