pub mod Units
pub mod UnitClauses
pub mod Source
pub mod Scope
