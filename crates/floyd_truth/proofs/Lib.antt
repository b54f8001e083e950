pub mod Fresh
pub mod InChanged
pub mod Marks
pub mod OneTruth
pub mod Tracks
