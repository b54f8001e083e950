-- Definitions that contracts cite.
pub mod Arrays
pub mod JoinArray
pub mod JoinArrayClauses
pub mod SplitArray
