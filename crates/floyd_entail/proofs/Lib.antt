pub mod ExistsLemmas
pub mod FactsLemmas
pub mod IntrosLemmas
