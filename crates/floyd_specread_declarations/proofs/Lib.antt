pub mod StandingLemmas
pub mod UnlikeLemmas
pub mod JudgedLemmas
