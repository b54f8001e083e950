-- What integer expressions of C mean, and the laws that elaboration keeps that meaning.
pub mod Conversions
pub mod Numbers
pub mod TypeNames
pub mod CMeaning
pub mod Running
pub mod Laws
pub mod Reads
pub mod Places
pub mod Typings
