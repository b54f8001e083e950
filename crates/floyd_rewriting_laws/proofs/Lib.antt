pub mod Mapping
pub mod AssertionsKept
