pub mod Sorts
pub mod SortClauses
