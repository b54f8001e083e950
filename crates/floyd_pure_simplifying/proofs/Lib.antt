pub mod Simplifying
pub mod Stopping
