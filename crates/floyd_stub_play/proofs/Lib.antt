pub mod Plays
pub mod PlayLaws
