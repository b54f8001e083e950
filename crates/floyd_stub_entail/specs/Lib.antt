-- What contracts cite.
pub mod Cancel
