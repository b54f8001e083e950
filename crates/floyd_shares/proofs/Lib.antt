pub mod ChainLemmas
pub mod ShareLemmas
