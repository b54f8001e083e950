-- Definitions that contracts cite.
pub mod Fields
