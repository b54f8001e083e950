-- Lemmas on calls of functions that are replaced by what they mean.
pub mod AssertionsUnfolded
pub mod Calling
pub mod FormulasUnfolded
pub mod Opening
pub mod Putting
pub mod Sound
pub mod TermsUnfolded
