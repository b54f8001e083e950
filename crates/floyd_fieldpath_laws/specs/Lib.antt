-- Definitions and laws that contracts cite.
pub mod Conditions
pub mod Senses
pub mod SortLaws
