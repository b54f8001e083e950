-- Lemmas on lemmas of specification files, and on the commands that use them.
pub mod Applying
pub mod Forming
pub mod Hypotheses
pub mod Seeing
pub mod Stating
pub mod Using
