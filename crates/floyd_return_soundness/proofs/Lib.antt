pub mod Blocks
pub mod Posts
pub mod Returning
