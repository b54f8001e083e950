-- Definitions that contracts cite.
pub mod Operators
pub mod Expressions
pub mod Switches
