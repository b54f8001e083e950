pub mod NeedLemmas
pub mod RunLemmas
