pub mod RunLemmas
pub mod JudgedLemmas
