pub mod Lists
pub mod Conjunctions
pub mod Truths
pub mod SideLaws
