-- Definitions that contracts cite.
pub mod Counts
pub mod Joining
pub mod Plans
