pub mod NumberLemmas
pub mod StepLemmas
pub mod StateLemmas
pub mod PlayLemmas
pub mod DerivationLemmas
