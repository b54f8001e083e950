pub mod Strengths
pub mod Groups
pub mod RowClauses
pub mod HeightClauses
pub mod Order
pub mod Strong
