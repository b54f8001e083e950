-- Lemmas on what modules hold together.
pub mod Examples
pub mod FunUnions
pub mod FunsBare
pub mod Having
pub mod KeepMore
pub mod PredsBare
pub mod Unions
