-- Definitions that contracts cite.
pub mod Answers
pub mod Goals
pub mod Rows
pub mod Sides
pub mod StackClauses
pub mod Stacks
