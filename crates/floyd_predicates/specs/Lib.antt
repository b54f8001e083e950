-- Definitions that contracts cite.
pub mod Calls
pub mod WellFormed
