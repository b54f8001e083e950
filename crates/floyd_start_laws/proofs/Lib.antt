-- Lemmas on the start goals of proofs.
pub mod BlockParts
pub mod BodyStarts
pub mod Entering
pub mod ItemEnvs
pub mod LemmaStarts
pub mod NewObjects
