-- Definitions that contracts cite.
pub mod Assertions
pub mod Calls
pub mod Unfolded
pub mod UnfoldedClauses
