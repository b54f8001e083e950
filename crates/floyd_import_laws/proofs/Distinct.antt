-- Names that are distinct stay so where each in turn is kept, or becomes one that no other has.
use Rattle.std.proofs.Common.{◌≡◌, ◌⊎◌, inl, inr, ℕ, ◌+◌, ◌≤◌, true, false, List, [], ◌∷◌, ◌++◌, length, sym, ◌∙◌, subst, arith, true≢false, append_assoc}
use Rattle.std.specs.Prelude.{bytes_eq}
use Rattle.std.proofs.lemmas.Bool.{or_left, or_parts, or_right}
use Rattle.std.proofs.lemmas.List.{length-append}
use Rattle.std.proofs.lemmas.Slice.Eq.{bytes_eq-Decides}
use Rattle.floyd_tree_values.specs.Rules.{AreDistinct, IsOneOf}
use Rattle.floyd_assert_trees.specs.declared.binder.Binder.{Binder}
use Rattle.floyd_assert_changes.specs.Changed.{has_name}
use Rattle.floyd_goal_forms.specs.Terms.{names_with}

abbrev pub AreApart : List Binder → Type 0
AreApart bs = AreDistinct (names_with bs)

one_has : (bs : List Binder) (x : List ℕ) → IsOneOf (names_with bs) x → has_name x bs ≡ true
one_has [] x k = absurd k
one_has (b ∷ bs) x (inl e) = or_left (bytes_eq x b.name) (has_name x bs) ((bytes_eq-Decides x b.name).1 e)
one_has (b ∷ bs) x (inr k) = or_right (bytes_eq x b.name) (has_name x bs) (one_has bs x k)

module _ (b c : Binder) (more : List Binder) where
  -- with c in the place of b
  moved : (done : List Binder) (x : List ℕ) → IsOneOf (names_with (done ++ c ∷ more)) x → (x ≡ c.name) ⊎ IsOneOf (names_with (done ++ b ∷ more)) x
  moved [] x (inl e) = inl e
  moved [] x (inr k) = inr (inr k)
  moved (z ∷ done) x (inl e) = inr (inl e)
  moved (z ∷ done) x (inr k) = further (moved done x k)
    where
      further : (x ≡ c.name) ⊎ IsOneOf (names_with (done ++ b ∷ more)) x → (x ≡ c.name) ⊎ IsOneOf (names_with (z ∷ done ++ b ∷ more)) x
      further (inl e) = inl e
      further (inr q) = inr (inr q)

  exchanged : (done : List Binder) → has_name c.name (done ++ more) ≡ false → AreApart (done ++ b ∷ more) → AreApart (done ++ c ∷ more)
  exchanged [] e h = ((λ k. true≢false (sym (one_has more c.name k) ∙ e)), h.1)
  exchanged (z ∷ done) e h =
      let p = or_parts (bytes_eq c.name z.name) (has_name c.name (done ++ more)) e in
      ((λ k. by p.0 (moved done z.name k)), exchanged done p.1 h.1)
    where
      by : bytes_eq c.name z.name ≡ false → (z.name ≡ c.name) ⊎ IsOneOf (names_with (done ++ b ∷ more)) z.name → ⊥
      by n (inl q) = true≢false (sym ((bytes_eq-Decides c.name z.name).1 (sym q)) ∙ n)
      by n (inr q) = h.0 q

abbrev called_by : List ℕ → Binder → Binder
called_by x b = record { name = x; sort = b.sort }

module _ (rename : List Binder → List ℕ → List ℕ) where
  -- the names of all binders of a list in turn, behind those that are done
  abbrev pub renamed_by : List Binder → List Binder → List Binder
  renamed_by done [] = []
  renamed_by done (b ∷ more) =
      record { name = rename (done ++ more) b.name; sort = b.sort } ∷ renamed_by (done ++ record { name = rename (done ++ more) b.name; sort = b.sort } ∷ []) more

  module _ (most : ℕ) (new : (others : List Binder) (x : List ℕ) → length others ≤ most → (rename others x ≡ x) ⊎ (has_name (rename others x) others ≡ false)) where
    pub stay_apart : (done more : List Binder) → length done + length more ≤ most → AreApart (done ++ more) → AreApart (done ++ renamed_by done more)
    stay_apart done [] l h = h
    stay_apart done (b ∷ more) l h =
        let c = called_by (rename (done ++ more) b.name) b in
        let one = by (new (done ++ more) b.name (omega (arith, l, length-append done more))) in
        let front : AreApart ((done ++ c ∷ []) ++ more) = subst AreApart (sym (append_assoc done (c ∷ []) more)) one in
        subst AreApart (append_assoc done (c ∷ []) (renamed_by (done ++ c ∷ []) more)) (stay_apart (done ++ c ∷ []) more (omega (arith, l, length-append done (c ∷ []))) front)
      where
        by : (rename (done ++ more) b.name ≡ b.name) ⊎ (has_name (rename (done ++ more) b.name) (done ++ more) ≡ false) → AreApart (done ++ called_by (rename (done ++ more) b.name) b ∷ more)
        by (inl e) = subst (λ x. AreApart (done ++ called_by x b ∷ more)) (sym e) h
        by (inr e) = exchanged b (called_by (rename (done ++ more) b.name) b) more done e h
