pub mod HeapLaws
pub mod Under
pub mod Safety
pub mod Flats
pub mod Bounded
pub mod Steps
pub mod Induction
pub mod Adequate
