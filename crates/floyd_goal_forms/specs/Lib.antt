-- Definitions that contracts cite.
pub mod Assertions
pub mod Bodies
pub mod Goals
pub mod Items
pub mod Laws
pub mod Starts
pub mod Terms
