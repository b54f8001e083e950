-- Definitions that contracts cite.
pub mod Chunks
pub mod Decoding
pub mod Encoding
pub mod Laws
