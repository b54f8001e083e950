pub mod Forms
pub mod Places
pub mod States
pub mod Statements
