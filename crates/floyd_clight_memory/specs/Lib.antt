-- The memory of the machine.
pub mod Memory
pub mod Loads
pub mod Blocks
