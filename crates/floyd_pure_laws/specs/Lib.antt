-- Definitions that contracts cite: a file for each command.
pub mod ByLaw
pub mod Lia
