-- Lemmas on the values of fields, and on structs in their fields and in one.
pub mod Components
pub mod Fields
pub mod Splitting
pub mod Joining
