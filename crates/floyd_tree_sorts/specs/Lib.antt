-- Definitions that contracts cite.
pub mod Heads
pub mod Operators
pub mod Prints
pub mod Rows
pub mod ShapeClauses
pub mod Sorts
pub mod Table
