-- Definitions that contracts cite.
pub mod Addresses
pub mod DefaultTerms
pub mod Nested
pub mod NestedClauses
pub mod Projections
pub mod SortClauses
pub mod Sums
pub mod UpdateClauses
pub mod Updates
pub mod Written
