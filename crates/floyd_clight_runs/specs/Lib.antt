-- Runs of programs, and safety.
pub mod World
pub mod Runs
pub mod Starts
pub mod Seen
pub mod Safe
pub mod Calls
pub mod Needs
pub mod Sample
pub mod Laws
