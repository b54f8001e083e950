-- Definitions that contracts cite.
pub mod Assign
pub mod Forward
pub mod Leave
pub mod Objects
pub mod Return
pub mod Set
