-- Definitions that contracts cite.
pub mod JoinStruct
pub mod JoinStructClauses
pub mod SplitStruct
pub mod SplitStructClauses
pub mod StructParts
