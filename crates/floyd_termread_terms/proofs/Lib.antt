pub mod Chains
pub mod Heights
pub mod PartLemmas
pub mod RowLemmas
pub mod SenseLemmas
pub mod Suffixes
pub mod TermLemmas
