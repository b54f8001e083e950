pub mod Items
pub mod Locals
pub mod Running
pub mod Rows
pub mod Forward
