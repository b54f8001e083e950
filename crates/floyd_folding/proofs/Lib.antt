pub mod ShiftLemmas
pub mod SmallLemmas
