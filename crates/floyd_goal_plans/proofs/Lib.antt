pub mod CountLemmas
pub mod PlanLemmas
pub mod WritingLemmas
