pub mod StatementSets
pub mod StatementExact
pub mod LabelExact
pub mod BlockExact
pub mod SwitchExact
pub mod DepthExact
pub mod StatementShrinks
