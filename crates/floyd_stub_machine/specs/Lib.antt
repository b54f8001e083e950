-- The Clight machine.
pub mod Integers
pub mod Evaluation
pub mod Machine
