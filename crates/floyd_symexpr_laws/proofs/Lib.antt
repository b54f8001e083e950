pub mod BitOperations
pub mod MachineOperations
pub mod NumberRows
pub mod Operations
pub mod Ranges
pub mod SideTruths
pub mod TermMeanings
