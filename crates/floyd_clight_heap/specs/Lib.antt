-- Definitions that contracts cite.
pub mod Heaplet
pub mod Laws
pub mod Loads
