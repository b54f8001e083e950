-- Definitions that contracts cite.
pub mod Formulas
pub mod Rows
