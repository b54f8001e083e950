pub mod Locals
pub mod Needs
pub mod Typed
pub mod Setting
pub mod Leaving
