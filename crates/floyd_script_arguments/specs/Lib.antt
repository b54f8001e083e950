pub mod ArgumentClauses
pub mod Grammar
