-- Definitions that contracts cite.
pub mod Bounds
pub mod Locating
pub mod Places
pub mod Same
