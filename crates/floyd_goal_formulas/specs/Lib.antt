-- Definitions that contracts cite.
pub mod Drops
pub mod Fits
pub mod Keeping
pub mod KeepingClauses
pub mod Known
pub mod KnownClauses
pub mod Laws
pub mod Said
