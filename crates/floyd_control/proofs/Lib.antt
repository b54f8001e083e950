pub mod ControlLemmas
pub mod LabelLemmas
pub mod RowAnswers
pub mod SwitchLemmas
pub mod WhileLemmas
