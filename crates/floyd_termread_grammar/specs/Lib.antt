pub mod Terms
pub mod TermClauses
pub mod Reading
