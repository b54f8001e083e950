pub mod Agreeing
pub mod AssertionsOpened
pub mod FormulasOpened
pub mod HoleNames
pub mod TermsOpened
pub mod Filling
pub mod Pushing
