pub mod Data
pub mod Givens
pub mod InstanceRuns
pub mod Runs
pub mod SortsFit
pub mod Truths
pub mod Values
