-- The Clight machine.
pub mod Types
pub mod Integers
pub mod Looking
pub mod Pointers
pub mod Evaluation
pub mod Configurations
pub mod Programs
pub mod Switching
pub mod Machine
pub mod Footprint
pub mod Touched
pub mod Exits
pub mod Bounds
pub mod Laws
