-- Definitions that contracts cite.
pub mod Declarations
pub mod Judging
pub mod UnlikeClauses
pub mod JudgedClauses
