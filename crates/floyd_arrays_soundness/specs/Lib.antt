-- Definitions that contracts cite.
pub mod Pieces
