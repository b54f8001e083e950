pub mod ArrayLemmas
pub mod JoinLemmas
pub mod SplitLemmas
