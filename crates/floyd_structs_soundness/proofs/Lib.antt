-- Lemmas on commands on structs.
pub mod AtFields
pub mod Gaps
pub mod InStructs
pub mod JoiningStructs
pub mod Named
pub mod SplittingStructs
pub mod Spots
