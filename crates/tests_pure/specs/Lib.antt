pub mod Known
pub mod Scoped
