pub mod SightLemmas
pub mod Shrinks
pub mod ReadLemmas
pub mod TokenLemmas
pub mod NameLemmas
pub mod LeftLemmas
