pub mod SideLemmas
pub mod StackLemmas
