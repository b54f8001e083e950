pub mod StructLemmas
pub mod TableLemmas
