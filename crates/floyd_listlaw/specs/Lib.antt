-- The laws of lists, sums and comparisons: their table, their instances, and that they are true.
pub mod FittingClauses
pub mod InstanceClauses
pub mod Instances
pub mod Laws
pub mod Names
pub mod PostfixClauses
pub mod Table
pub mod Terms
