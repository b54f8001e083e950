-- Definitions that contracts cite: a file for each command, and what they share.
pub mod Fold
pub mod Settling
pub mod Unfold
