-- Lemmas on the nodes of assertions and their sizes.
pub mod Nodes
pub mod Goals
