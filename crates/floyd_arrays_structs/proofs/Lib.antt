pub mod AroundLemmas
pub mod JoinLemmas
pub mod ObjectLemmas
pub mod PairLemmas
pub mod StructLemmas
