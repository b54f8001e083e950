pub mod Apart
pub mod Returned
