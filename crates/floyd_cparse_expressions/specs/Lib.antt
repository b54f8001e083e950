pub mod Expressions
pub mod ExpressionClauses
