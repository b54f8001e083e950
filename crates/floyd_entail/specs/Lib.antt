-- Definitions that contracts cite.
pub mod Exists
pub mod Facts
pub mod Intros
pub mod Reroot
pub mod Valid
pub mod Weaken
