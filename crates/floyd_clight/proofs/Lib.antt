pub mod FlatLaws
pub mod WordLaws
