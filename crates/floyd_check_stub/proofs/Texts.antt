-- Texts that are expected.
use Rattle.std.proofs.Common.{◌≡◌, ℕ, ◌<◌, true, List, [], ◌∷◌, ◌++◌, length, map, refl, arith, inl, inr, Some, None, bytes_eq}
use Rattle.std.proofs.lemmas.Bool.{cases_Bool, false≢true}
use Rattle.std.proofs.lemmas.Slice.Eq.{bytes_eq-Decides}
use Rattle.floyd_check_stub.specs.ReadingClauses.{after_all, is_nil}

pub same : (xs ys : List ℕ) → bytes_eq xs ys ≡ true → xs ≡ ys
same xs ys = (bytes_eq-Decides xs ys).0

pub itself : (xs : List ℕ) → bytes_eq xs xs ≡ true
itself xs = (bytes_eq-Decides xs xs).1 refl

pub nil_is : (ts : List (List ℕ)) → is_nil ts ≡ true → ts ≡ []
nil_is [] e = refl
nil_is (t ∷ ts) e = absurd (false≢true e)

-- what follows these texts, both ways
pub after_read : (ws ts rest : List (List ℕ)) → after_all ws ts ≡ Some rest → ts ≡ ws ++ rest
after_read [] ts rest e = cc
after_read (w ∷ ws) [] rest e = absurd cc
after_read (w ∷ ws) (t ∷ ts) rest e = elim (cases_Bool (bytes_eq t w)) [
  | inl k ↦
      let found : after_all ws ts ≡ Some rest = rw k at e in
      let head = same t w k in
      let tail = after_read ws ts rest found in
      cc
  | inr k ↦
      let wrong : None ≡ Some rest = rw k at e in
      absurd cc
]

pub after_given : (ws rest : List (List ℕ)) → after_all ws (ws ++ rest) ≡ Some rest
after_given [] rest = refl
after_given (w ∷ ws) rest = rw (itself w) (after_given ws rest)

-- where texts are left that are expected, and none there
pub none_left : {A : Type 0} (f : A → List ℕ) (ws : List A) → 0 < length ws → after_all (map f ws) [] ≡ None
none_left f [] h = absurd (omega arith)
none_left f (w ∷ ws) h = refl
