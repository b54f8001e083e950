-- Definitions that contracts cite.
pub mod Names
pub mod Duplicates
pub mod Tables
pub mod DuplicateClauses
pub mod StructsDiffer
pub mod StructClauses
pub mod Unresolved
pub mod UnresolvedClauses
pub mod Main
pub mod MainClauses
