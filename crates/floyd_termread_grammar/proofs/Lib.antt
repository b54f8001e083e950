pub mod TokenSets
pub mod TermExact
pub mod TermShrinks
pub mod EndLemmas
pub mod ReadingLemmas
pub mod RoomLemmas
