-- Definitions that contracts cite.
pub mod Assertions
pub mod DefaultClauses
pub mod Laws
pub mod ListClauses
pub mod Simplified
pub mod SimplifiedClauses
pub mod StepClauses
pub mod SumClauses
pub mod WrittenLists
