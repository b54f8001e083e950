pub mod Storing
pub mod Assigning
