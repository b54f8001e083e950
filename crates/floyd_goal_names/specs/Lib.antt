-- Definitions that contracts cite.
pub mod Free
pub mod Names
