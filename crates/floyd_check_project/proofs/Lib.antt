pub mod Lines
pub mod NameLaws
pub mod SomeLaws
