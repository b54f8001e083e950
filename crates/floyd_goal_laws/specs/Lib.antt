-- Definitions that contracts cite.
pub mod Alike
pub mod Cases
pub mod Following
pub mod Sides
