-- Definitions that contracts cite: a file for each command.
pub mod Changing
pub mod Laws
pub mod Rewrite
