pub mod UnitSets
pub mod UnitExact
pub mod UnitShrinks
pub mod EndLemmas
pub mod SourceLemmas
