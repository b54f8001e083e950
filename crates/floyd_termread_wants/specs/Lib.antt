-- Definitions that contracts cite.
pub mod Judging
pub mod Refusals
pub mod Wants
pub mod Making
pub mod MakingClauses
