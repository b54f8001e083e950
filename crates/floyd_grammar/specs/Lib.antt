pub mod Phrase
pub mod ParseClauses
pub mod Refused
pub mod GivesClauses
