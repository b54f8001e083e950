pub mod Define
pub mod Has
pub mod Layout
pub mod Path
pub mod Stored
pub mod Structs
