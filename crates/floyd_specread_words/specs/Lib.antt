-- Definitions that contracts cite.
pub mod Words
pub mod Calls
pub mod Many
