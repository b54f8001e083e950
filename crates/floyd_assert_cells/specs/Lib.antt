-- Definitions that contracts cite.
pub mod Cells
pub mod Examples
pub mod Focus
pub mod Forms
pub mod Items
pub mod Laws
pub mod Scalars
pub mod Types
