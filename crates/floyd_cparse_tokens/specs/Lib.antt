pub mod Tokens
pub mod SeenClauses
