-- The truth of formulas, equality up to bound names, and substitution.
pub mod Capture
pub mod Compatible
pub mod Laws
pub mod Replace
pub mod Same
pub mod Truth
pub mod Types
