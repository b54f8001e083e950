-- Lemmas on imports with specifications of their own.
pub mod Collected
pub mod Distinct
pub mod Freed
pub mod Served
pub mod Sorted
pub mod Values
