-- Lemmas on readings with one answer.
pub mod Chains
pub mod Lists
pub mod Binders
pub mod Parts
pub mod Assertions
