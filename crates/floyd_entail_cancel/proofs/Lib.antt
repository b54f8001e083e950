pub mod CancelLemmas
pub mod LocalLemmas
pub mod NumberLemmas
