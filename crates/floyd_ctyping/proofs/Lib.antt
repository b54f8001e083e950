pub mod ConstantLemmas
pub mod OperatorLemmas
pub mod ExpressionLemmas
pub mod Weights
pub mod Chains
