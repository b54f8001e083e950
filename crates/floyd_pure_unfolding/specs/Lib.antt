-- Definitions that contracts cite.
pub mod Row
