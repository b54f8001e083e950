-- Definitions that contracts cite.
pub mod Marks
pub mod Lists
