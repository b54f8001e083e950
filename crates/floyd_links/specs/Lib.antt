-- Definitions that contracts cite.
pub mod Examples
pub mod Imports
pub mod InitialTerms
pub mod Laws
pub mod Links
pub mod MainPre
