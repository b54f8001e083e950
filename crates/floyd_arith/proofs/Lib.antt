-- What the answers of several functions share.
pub mod CertificateLemmas
pub mod LinearLemmas
pub mod SameLemmas
pub mod Sums
pub mod Truths
pub mod UnknownLemmas
pub mod Values
