-- Lemmas on the command that replaces calls.
pub mod Stopping
