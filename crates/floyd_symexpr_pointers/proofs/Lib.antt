pub mod OperatorLemmas
pub mod PointerLemmas
