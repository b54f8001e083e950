pub mod Lines
pub mod Project
