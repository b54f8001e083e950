-- Definitions that contracts cite.
pub mod Heads
pub mod Functions
pub mod Bodies
pub mod Predicates
pub mod Lemmas
pub mod VariableClauses
pub mod Texts
