-- The syntax of Clight.
pub mod Types
pub mod Flat
pub mod Words
