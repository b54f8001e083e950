pub mod PathLemmas
pub mod ReturnLemmas
pub mod RowAnswers
