pub mod CallLemmas
pub mod ManyLemmas
