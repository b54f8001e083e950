-- Definitions that contracts cite.
pub mod Numbers
pub mod NumberClauses
pub mod Steps
pub mod StepClauses
pub mod Plays
pub mod Few
pub mod Forms
pub mod PlayClauses
pub mod Derivations
