pub mod Chains
pub mod ReadingLemmas
pub mod TypeLemmas
pub mod Weights
