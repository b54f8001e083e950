pub mod Certifying
pub mod LawTerms
pub mod RowAnswers
pub mod UsingLaws
