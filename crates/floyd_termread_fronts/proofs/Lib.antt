pub mod Fills
pub mod StartLemmas
pub mod StartFacts
pub mod SortFills
pub mod TermFills
pub mod FrontLemmas
