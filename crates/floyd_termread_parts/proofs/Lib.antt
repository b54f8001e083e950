pub mod ShapeLemmas
pub mod Chains
pub mod PartLemmas
