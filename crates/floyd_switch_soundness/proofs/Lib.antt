pub mod Cases
pub mod Choosing
pub mod Switching
