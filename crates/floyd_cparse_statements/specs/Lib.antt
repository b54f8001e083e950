pub mod Labels
pub mod Statements
pub mod LabelClauses
pub mod StatementClauses
