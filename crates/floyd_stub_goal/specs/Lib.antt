-- Goals, when a goal holds, and what the commands of a script share.
pub mod GoalHolds
pub mod Sides
pub mod Starts
