pub mod LeftLemmas
pub mod MainLemmas
pub mod Numerals
pub mod ScriptForm
pub mod SpecForm
pub mod Texts
