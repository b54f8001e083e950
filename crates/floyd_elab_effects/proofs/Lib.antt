pub mod Leading
pub mod CallLemmas
pub mod EffectLemmas
pub mod OtherLemmas
pub mod ArgumentLemmas
