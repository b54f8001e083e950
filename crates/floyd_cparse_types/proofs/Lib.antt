pub mod TypeSets
pub mod TypeExact
pub mod DeclaratorExact
pub mod TypeShrinks
