pub mod SeenLemmas
pub mod TakeLemmas
