pub mod TermLaws
pub mod LocalLaws
