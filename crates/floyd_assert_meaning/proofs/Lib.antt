pub mod AlikeLaws
pub mod Examples
pub mod Free
pub mod Inversions
pub mod Orders
pub mod Related
pub mod Sames
