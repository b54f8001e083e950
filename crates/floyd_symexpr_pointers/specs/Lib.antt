-- Definitions that contracts cite.
pub mod Operators
pub mod PointerRows
