-- Lemmas on formulas with terms in the place of variables, and on goals with variables more.
pub mod Leading
pub mod Replacing
pub mod Instancing
pub mod Growing
pub mod Extending
pub mod Quantified
