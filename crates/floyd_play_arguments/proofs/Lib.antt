pub mod Chains
pub mod DigitLemmas
pub mod VariableLemmas
