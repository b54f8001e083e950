-- Linear terms over whole numbers, and certificates that refute by weights.
pub mod Certificates
pub mod FactClauses
pub mod Laws
pub mod Linear
pub mod LinearClauses
pub mod Same
