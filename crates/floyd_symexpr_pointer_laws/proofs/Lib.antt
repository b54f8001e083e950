pub mod Growth
pub mod Objects
pub mod Operators
pub mod PointerOrders
pub mod PointerRows
pub mod SizeTerms
