-- Lemmas on heaplets.
pub mod Blocks
pub mod Places
pub mod Loading
pub mod Spreads
pub mod Stores
pub mod Sums
