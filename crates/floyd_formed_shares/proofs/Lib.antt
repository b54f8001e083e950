-- Lemmas on numbers that rows write, on parts that are put in place of others, and on shares.
pub mod Numbers
pub mod Placed
pub mod Shared
