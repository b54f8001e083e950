-- Definitions that contracts cite.
pub mod States
