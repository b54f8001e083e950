pub mod Sides
pub mod Uses
