pub mod ConstantLemmas
pub mod DeclaratorLemmas
pub mod ItemLemmas
