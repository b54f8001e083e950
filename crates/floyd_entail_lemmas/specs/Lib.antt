-- Definitions that contracts cite.
pub mod Apply
pub mod Hypothesis
