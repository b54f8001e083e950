-- Lemmas on arrays, and on pieces of them.
pub mod Pieces
pub mod Lists
pub mod Goals
