-- Lemmas on terms, formulas and assertions that are simplified.
pub mod Mapped
pub mod Behind
pub mod Steps
pub mod Terms
pub mod Formulas
pub mod Goals
