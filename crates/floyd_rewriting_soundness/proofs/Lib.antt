-- Lemmas on goals whose assertions are replaced.
pub mod Formed
pub mod Replaced
pub mod Sound
