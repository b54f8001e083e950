pub mod CancelLocals
pub mod CancelHolds
pub mod EntailLaws
