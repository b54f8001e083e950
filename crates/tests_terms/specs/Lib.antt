-- Definitions that contracts cite.
pub mod Full
