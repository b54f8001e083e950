-- Lemmas on commands on shares.
pub mod InShares
pub mod Joining
pub mod Numbers
pub mod OnePlace
pub mod Sharing
