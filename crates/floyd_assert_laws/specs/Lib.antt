-- Definitions that contracts cite.
pub mod Bare
pub mod Free
pub mod InChanged
