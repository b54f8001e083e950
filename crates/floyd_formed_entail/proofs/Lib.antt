-- Lemmas on parts of memory with terms in the place of variables, and on side formulas.
pub mod Changing
pub mod NewNames
pub mod Sided
pub mod Opening
pub mod Cancelled
