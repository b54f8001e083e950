-- Data, the values of terms, and user functions.
pub mod BuiltIns
pub mod Data
pub mod Defaults
pub mod Funs
pub mod Laws
pub mod Lists
pub mod Means
pub mod Numbers
pub mod Rules
pub mod Values
