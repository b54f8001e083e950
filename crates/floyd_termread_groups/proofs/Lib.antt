pub mod TreeLemmas
pub mod RowLemmas
pub mod Heights
pub mod OrderLemmas
pub mod StrongLemmas
