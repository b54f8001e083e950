-- Lemmas on goals in which a term stands in the place of a variable.
pub mod Back
pub mod Cases
pub mod NewVariables
pub mod Replaced
pub mod Sound
