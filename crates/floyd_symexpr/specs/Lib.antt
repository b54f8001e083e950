-- Definitions that contracts cite.
pub mod Expressions
pub mod Locate
pub mod ReadingClauses
