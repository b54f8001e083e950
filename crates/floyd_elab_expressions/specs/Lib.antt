-- Definitions that contracts cite.
pub mod Clight
pub mod Progress
pub mod Expressions
pub mod Behind
pub mod LogicClauses
pub mod CountClauses
