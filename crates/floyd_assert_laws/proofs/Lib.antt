-- Lemmas on assertions after changes.
pub mod Agreeing
pub mod BareLaws
pub mod FreeLaws
pub mod NewNames
pub mod Renamed
pub mod Replaced
