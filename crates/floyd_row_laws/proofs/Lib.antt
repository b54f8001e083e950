-- How the laws of single rows give both laws with one premise, and what these give of derivations.
pub mod Gathering
pub mod Deriving
