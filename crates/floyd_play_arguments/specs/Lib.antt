-- Definitions that contracts cite.
pub mod Numbers
pub mod Arguments
