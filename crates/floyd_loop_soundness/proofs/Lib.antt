pub mod Assertions
pub mod Looping
