-- Definitions that contracts cite.
pub mod Reads
pub mod Phrases
pub mod Laws
