pub mod Heads
pub mod Sights
pub mod SightClauses
