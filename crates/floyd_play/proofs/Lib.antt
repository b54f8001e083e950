pub mod ProvingLemmas
