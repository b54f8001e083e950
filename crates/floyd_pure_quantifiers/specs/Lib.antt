-- Definitions that contracts cite: what an instance is, and a file for each command.
pub mod BindingClauses
pub mod EquationsClauses
pub mod Exists
pub mod Inject
pub mod Intro
pub mod Specialize
pub mod Split
