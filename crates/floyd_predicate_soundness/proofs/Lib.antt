-- Lemmas on commands that look at items.
pub mod Clauses
pub mod Folding
pub mod Items
pub mod Placing
pub mod Settling
pub mod Unfolding
