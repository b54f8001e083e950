-- Definitions that contracts cite.
pub mod Views
