-- Definitions that contracts cite.
pub mod Leaves
pub mod Slots
pub mod Brackets
