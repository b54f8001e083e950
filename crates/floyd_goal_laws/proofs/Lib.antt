-- Lemmas on goals that follow from others.
pub mod AlikeGoals
pub mod Consequences
pub mod Givens
pub mod Growing
pub mod SideGoals
