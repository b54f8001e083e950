-- Definitions that contracts cite.
pub mod Objects
pub mod Parts
