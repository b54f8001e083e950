pub mod Types
pub mod TypeClauses
