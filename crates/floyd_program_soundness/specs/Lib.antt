-- Definitions that contracts cite.
pub mod Examples
pub mod Laws
pub mod Proofs
