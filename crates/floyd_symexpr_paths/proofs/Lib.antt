pub mod BoundLemmas
pub mod PlaceLemmas
pub mod SameLemmas
pub mod SearchLemmas
