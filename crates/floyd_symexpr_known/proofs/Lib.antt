pub mod Answers
pub mod Rows
pub mod Pointers
pub mod Places
pub mod Readings
pub mod Locations
