-- Definitions that contracts cite.
pub mod Bodies
pub mod Contents
pub mod Examples
pub mod Expressions
pub mod Statements
