-- Lemmas on assertions with terms in the place of variables.
pub mod Existentials
pub mod Assertions
pub mod Witness
