-- Definitions that contracts cite.
pub mod Contexts
pub mod Sizes
