-- Lemmas on calls that are replaced by what they mean.
pub mod CallLemmas
pub mod Joining
pub mod JoiningAssertions
pub mod JoiningFormulas
