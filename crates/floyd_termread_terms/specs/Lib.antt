-- Definitions that contracts cite.
pub mod Senses
pub mod Brackets
pub mod Rows
pub mod Terms
