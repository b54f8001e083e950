pub mod OutsideLemmas
