-- Definitions that contracts cite.
pub mod GoalScopes
