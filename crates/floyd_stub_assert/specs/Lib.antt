-- What terms, formulas, assertions and specifications mean.
pub mod Terms
pub mod LocalTerms
pub mod Heaplet
pub mod Data
pub mod Truth
pub mod Assertions
pub mod Spec
