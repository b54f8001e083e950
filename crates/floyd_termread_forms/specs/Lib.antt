-- Definitions that contracts cite.
pub mod Making
pub mod Frames
pub mod FrameClauses
pub mod Joining
