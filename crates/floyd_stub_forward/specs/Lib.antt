-- What contracts cite.
pub mod Forward
pub mod ForwardClauses
