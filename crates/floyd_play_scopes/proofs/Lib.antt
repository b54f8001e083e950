pub mod BindLemmas
