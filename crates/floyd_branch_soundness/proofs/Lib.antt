pub mod Asking
pub mod Branching
