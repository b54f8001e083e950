pub mod Suffixes
pub mod TypeLemmas
