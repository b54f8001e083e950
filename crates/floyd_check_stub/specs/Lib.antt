-- What contracts cite.
pub mod Forms
pub mod LeftClauses
pub mod MainForm
pub mod ReadingClauses
