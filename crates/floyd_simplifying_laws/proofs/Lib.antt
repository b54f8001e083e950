pub mod AssertionsKept
pub mod Formed
pub mod Sound
