pub mod KeyLemmas
pub mod Lists
pub mod ProvedSound
