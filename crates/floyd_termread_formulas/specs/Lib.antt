-- Definitions that contracts cite.
pub mod Formulas
