-- Definitions that contracts cite.
pub mod Changed
