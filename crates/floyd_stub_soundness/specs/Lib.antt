-- What contracts cite.
pub mod Programs
