pub mod SortExact
pub mod SortShrinks
pub mod RoomLemmas
