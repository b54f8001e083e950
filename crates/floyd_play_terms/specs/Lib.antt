-- Definitions that contracts cite.
pub mod Expected
pub mod Terms
