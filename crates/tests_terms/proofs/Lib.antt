pub mod Spines
