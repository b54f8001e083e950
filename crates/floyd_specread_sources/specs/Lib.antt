-- Definitions that contracts cite.
pub mod Tables
pub mod Sources
