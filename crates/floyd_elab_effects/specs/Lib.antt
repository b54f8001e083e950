-- Definitions that contracts cite.
pub mod Effects
pub mod CallClauses
