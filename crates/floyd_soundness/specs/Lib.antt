-- Definitions that contracts cite.
pub mod Accepted
pub mod Claims
pub mod KeyClauses
pub mod Keys
pub mod Unproved
