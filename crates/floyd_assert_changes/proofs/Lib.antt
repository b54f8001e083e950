-- Lemmas on terms in place of variables.
pub mod Answering
pub mod SetApart
pub mod Existentials
pub mod Heights
pub mod Marking
pub mod Naming
pub mod Parting
pub mod Replacing
pub mod ReplacingFormulas
pub mod StayingFormulas
pub mod StillBelow
pub mod Stopping
