-- Definitions that contracts cite.
pub mod Small
