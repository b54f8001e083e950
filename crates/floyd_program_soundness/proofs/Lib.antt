-- From proofs to the soundness of the program.
pub mod Bodies
pub mod Examples
pub mod Functions
pub mod Imported
pub mod LemmasProved
pub mod Lists
pub mod Seen
pub mod Soundness
