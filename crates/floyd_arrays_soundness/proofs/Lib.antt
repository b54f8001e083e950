-- Lemmas on commands on arrays.
pub mod Arrays
pub mod Elements
pub mod JoiningArrays
pub mod Pieces
pub mod SplittingArrays
