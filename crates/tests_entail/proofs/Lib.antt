pub mod SuitLemmas
