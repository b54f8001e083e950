-- Definitions that contracts cite.
pub mod GoalHolds
pub mod Laws
pub mod Links
pub mod Programs
pub mod Worlds
