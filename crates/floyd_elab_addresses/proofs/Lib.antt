pub mod Adding
pub mod DeclaratorParts
pub mod ExpressionParts
pub mod FlagLaws
pub mod StatementParts
