-- Definitions that contracts cite.
pub mod Instances
pub mod Specifications
