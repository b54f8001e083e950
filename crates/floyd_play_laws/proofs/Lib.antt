pub mod Deriving
pub mod Gathering
pub mod Table
