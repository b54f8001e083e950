-- Lemmas on parts of memory.
pub mod Cuts
pub mod DefaultCells
pub mod Exact
pub mod Examples
pub mod FieldParts
pub mod Focuses
pub mod FormLaws
pub mod FormOrders
pub mod NoNegatives
pub mod ObjectLaws
pub mod PathForms
pub mod ScalarLaws
pub mod Spreading
pub mod SplitShares
