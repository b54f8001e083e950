-- Lemmas on instances of specifications.
pub mod Made
pub mod Says
