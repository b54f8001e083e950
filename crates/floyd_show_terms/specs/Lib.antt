-- Definitions that contracts cite.
pub mod Formulas
pub mod Paths
pub mod SizedTypes
pub mod Terms
pub mod TermsClauses
pub mod Types
pub mod TypesClauses
pub mod Words
