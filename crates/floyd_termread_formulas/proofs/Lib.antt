pub mod FormulaLemmas
pub mod ItemLemmas
pub mod ReadingLemmas
pub mod SideLemmas
pub mod StepLemmas
