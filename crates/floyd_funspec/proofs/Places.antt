-- A position that was found is one of the list.
use Rattle.std.proofs.Common.{◌≡◌, ℕ, ◌<◌, List, length, Some, subst}
use Rattle.std.specs.List.{position}
use Rattle.std.specs.Map.{keys_of}
use Rattle.std.specs.Prelude.{bytes_eq}
use Rattle.std.proofs.lemmas.List.Quantifiers.{position-Some}
use Rattle.std.proofs.lemmas.Map.Entries.{length-keys_of}

pub within_count : {X : Type 0} (name : List ℕ) (entries : List (List ℕ × X)) (i : ℕ) → position (bytes_eq name) (keys_of entries) ≡ Some i → i < length entries
within_count name entries i e = subst (λ n. i < n) (length-keys_of entries) (position-Some (bytes_eq name) (keys_of entries) i name e).0
