pub mod Operators
pub mod Brackets
pub mod Tables
