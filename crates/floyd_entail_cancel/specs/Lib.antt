-- Definitions that contracts cite.
pub mod Cancel
pub mod CancelClauses
