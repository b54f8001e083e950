pub mod RowLemmas
pub mod ShapeLemmas
pub mod SortLemmas
