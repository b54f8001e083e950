-- The linked program, its runs, and what it means that it is sound.
pub mod World
pub mod Linked
pub mod Runs
pub mod Sound
pub mod Safe
