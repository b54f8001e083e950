-- Lemmas on commands on goals about memory.
pub mod Cancelling
pub mod InPlace
pub mod Naming
pub mod Placing
pub mod Putting
pub mod Replacing
pub mod Sizes
pub mod Sorted
pub mod Sources
pub mod Stating
pub mod UnderSides
pub mod Validating
pub mod Written
