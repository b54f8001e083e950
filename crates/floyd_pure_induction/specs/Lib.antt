-- Definitions that contracts cite.
pub mod Induction
