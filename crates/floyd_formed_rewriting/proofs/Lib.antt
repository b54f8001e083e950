-- Lemmas on terms, formulas and assertions with holes, and on what fills these.
pub mod Opened
pub mod OpenedFormulas
pub mod Filled
pub mod Goals
