-- Definitions that contracts cite.
pub mod Mentions
pub mod MentionClauses
