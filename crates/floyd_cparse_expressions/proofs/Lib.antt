pub mod ExpressionSets
pub mod ExpressionExact
pub mod PrefixShrinks
pub mod PostfixShrinks
pub mod OperatorShrinks
pub mod NestedReading
pub mod BuildLemmas
