pub mod SightLemmas
