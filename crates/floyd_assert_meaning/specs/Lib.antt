-- Definitions that contracts cite.
pub mod Alike
pub mod Assertions
pub mod Examples
pub mod Laws
pub mod Parts
pub mod Predicates
pub mod Same
pub mod Settings
pub mod Specifications
