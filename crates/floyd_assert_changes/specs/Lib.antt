-- Definitions that contracts cite.
pub mod Apart
pub mod ApartClauses
pub mod BodyClauses
pub mod Changed
pub mod ChangesClauses
pub mod FittingClauses
pub mod NamesClauses
pub mod Substituted
