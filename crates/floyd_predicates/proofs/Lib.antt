-- Lemmas on calls and on the order of refusals.
pub mod CallLemmas
pub mod Orders
