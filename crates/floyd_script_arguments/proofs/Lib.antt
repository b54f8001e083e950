pub mod ArgumentExact
pub mod PhraseExact
pub mod RoomLemmas
pub mod TokenSets
