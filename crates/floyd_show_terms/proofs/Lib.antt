pub mod FormulaLemmas
pub mod PathLemmas
pub mod Puts
pub mod TermLemmas
pub mod TypeLemmas
pub mod WordLemmas
