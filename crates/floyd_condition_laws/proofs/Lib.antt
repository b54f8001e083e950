pub mod Shifting
pub mod Branching
pub mod Deciding
