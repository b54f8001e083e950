pub mod Reading
pub mod ScriptClauses
pub mod Scripts
