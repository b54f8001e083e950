pub mod FormulasKept
pub mod FreeTruth
pub mod HoleData
pub mod Keeping
pub mod PartsChanged
pub mod Rewriting
pub mod RowAnswers
pub mod TermsKept
