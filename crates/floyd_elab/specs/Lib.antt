-- Definitions that contracts cite.
pub mod TableClauses
pub mod Files
pub mod Units
pub mod UnitClauses
