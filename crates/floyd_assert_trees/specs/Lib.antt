-- Definitions that contracts cite.
pub mod Sizes
pub mod Meanings
