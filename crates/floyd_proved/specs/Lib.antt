-- Definitions that contracts cite.
pub mod Claims
