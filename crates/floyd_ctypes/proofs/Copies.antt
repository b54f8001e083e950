-- Entries that are put one after the other into a map that had none.
use Rattle.std.proofs.Common.{◌≡◌, ℕ, Bool, true, false, true≢false, List, [], ◌∷◌, ◌++◌, Option, bytes_eq, refl, ap, sym, subst, ◌∙◌}
use Rattle.std.proofs.lemmas.List.{append_assoc}
use Rattle.std.specs.Prelude.{if◌then◌else◌}
use Rattle.std.specs.List.{IsDistinct}
use Rattle.std.specs.Map.{keys_of}
use Rattle.std.proofs.lemmas.Slice.Eq.{bytes_eq-Decides}
use Rattle.indexmap.specs.IndexMap.{insert_entry}
use Rattle.floyd_ctypes.specs.declared.laid.Laid.{Laid}
use Rattle.floyd_ctypes.proofs.Seen.{Entries}

other_way : (a b : List ℕ) → bytes_eq a b ≡ false → bytes_eq b a ≡ false
other_way a b h = by (bytes_eq b a) refl
  where
    by : (c : Bool) → bytes_eq b a ≡ c → bytes_eq b a ≡ false
    by true e = absurd (true≢false (sym ((bytes_eq-Decides a b).1 (sym ((bytes_eq-Decides b a).0 e))) ∙ h))
    by false e = e

-- a name that stands behind others is none of them
unlike : (name : List ℕ) (es : Entries) (k : List ℕ) (v : Option Laid) (rest : Entries) → IsDistinct bytes_eq (name ∷ keys_of (es ++ (k, v) ∷ rest)) → bytes_eq name k ≡ false
unfolding IsDistinct
unlike name [] k v rest d = d.0.0
unlike name (e ∷ es) k v rest d = unlike name es k v rest (d.0.1, d.1.1)

-- a new name goes last
pub put_last : (es : Entries) (k : List ℕ) (v : Option Laid) (rest : Entries) → IsDistinct bytes_eq (keys_of (es ++ (k, v) ∷ rest)) → insert_entry bytes_eq es k v ≡ es ++ (k, v) ∷ []
unfolding IsDistinct
put_last [] k v rest d = refl
put_last (e ∷ es) k v rest d = by (bytes_eq k e.0) (other_way e.0 k (unlike e.0 es k v rest d)) (put_last es k v rest d.1)
  where
    by : (b : Bool) → b ≡ false → insert_entry bytes_eq es k v ≡ es ++ (k, v) ∷ [] → (if b then (e.0, v) ∷ es else e ∷ insert_entry bytes_eq es k v) ≡ e ∷ (es ++ (k, v) ∷ [])
    by true h more = absurd (true≢false h)
    by false h more = ap (λ (l : Entries). e ∷ l) more

-- the copy so far and the rest are still all behind one step
pub copied_next : (es before now rest all : Entries) (k : List ℕ) (v w : Option Laid) → es ++ before ≡ all → before ≡ (k, v) ∷ rest → IsDistinct bytes_eq (keys_of all) → w ≡ v → now ≡ insert_entry bytes_eq es k w → now ++ rest ≡ all
copied_next es before now rest all k v w held step unique same put =
    let whole : es ++ (k, v) ∷ rest ≡ all = ap (λ (l : Entries). es ++ l) (sym step) ∙ held in
    ap (λ (l : Entries). l ++ rest)
    (put ∙ ap (insert_entry bytes_eq es k) same
    ∙ put_last es k v rest (subst (λ (l : Entries). IsDistinct bytes_eq (keys_of l)) (sym whole) unique))
    ∙ append_assoc es ((k, v) ∷ []) rest ∙ whole
