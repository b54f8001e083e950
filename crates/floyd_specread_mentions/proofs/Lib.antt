pub mod MentionedLemmas
