pub mod Answering
pub mod Exact
pub mod LoadLemmas
pub mod ProjectLemmas
pub mod Writing
