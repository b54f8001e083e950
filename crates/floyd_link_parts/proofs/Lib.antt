-- Lemmas on variables and on specifications by name.
pub mod PartLemmas
pub mod FunctionLemmas
