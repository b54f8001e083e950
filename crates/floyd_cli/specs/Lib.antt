pub mod AnswerClauses
pub mod Causes
pub mod LoadClauses
pub mod Texts
pub mod Words
