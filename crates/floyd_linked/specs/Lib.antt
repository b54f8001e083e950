-- Definitions that contracts cite.
pub mod Found
pub mod PlaceClauses
