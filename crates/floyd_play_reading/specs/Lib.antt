-- Definitions that contracts cite.
pub mod Answers
pub mod Names
pub mod Expected
pub mod Assertions
pub mod Arguments
pub mod ScopeClauses
