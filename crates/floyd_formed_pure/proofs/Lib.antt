-- Lemmas on goals that stay well formed.
pub mod Contexts
pub mod Sayings
pub mod Premises
pub mod Closing
pub mod Using
