pub mod OutermostLemmas
