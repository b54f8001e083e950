pub mod JudgedLists
pub mod MakingLemmas
pub mod WantLemmas
