-- The datum at the place of a variable is what the variable has.
use Rattle.std.proofs.Common.{◌≡◌, inl, inr, ℕ, suc, ◌+◌, ◌<◌, Bool, true, false, not, ◌||◌, cond, List, [], ◌∷◌, length, Some, None, refl, sym, ap, subst, ◌∙◌, arith}
use Rattle.std.specs.Prelude.{if◌then◌else◌, bytes_eq}
use Rattle.std.specs.List.{position_or_len}
use Rattle.std.specs.Option.{unwrap_or}
use Rattle.std.proofs.lemmas.Bool.{lt-ltb}
use Rattle.std.proofs.lemmas.Slice.Eq.{bytes_eq-Decides}
use Rattle.floyd_clight_memory.specs.Memory.{nth}
use Rattle.floyd_tree_sorts.specs.declared.sorts.Sort.{Sort}
use Rattle.floyd_tree_values.specs.Data.{Datum}
use Rattle.floyd_tree_values.specs.Rules.{AreDistinct, IsOneOf}
use Rattle.floyd_truth.proofs.Fresh.{not_true}
use Rattle.floyd_assert_changes.specs.Changed.{has_name}
use Rattle.floyd_assert_trees.specs.declared.binder.Binder.{Binder}
use Rattle.floyd_assert_meaning.specs.Settings.{AreFor, with_each}
use Rattle.floyd_goal_forms.specs.Terms.{names_with}
use Rattle.floyd_goal_names.proofs.NewNames.{each_other}
use Rattle.floyd_pure_formulas.specs.VariableCases.{sort_named}
use Rattle.floyd_pure_induction.specs.Induction.{place_of}

abbrev put : (List ℕ → Datum) → List ℕ → Datum → List ℕ → Datum
put f x d = λ y. if bytes_eq y x then d else f y

one_has : (bs : List Binder) (x : List ℕ) → has_name x bs ≡ true → IsOneOf (names_with bs) x
one_has [] x h = absurd cc
one_has (b ∷ bs) x h = by (one_has bs x) (bytes_eq x b.name) refl h
  where
    by : (has_name x bs ≡ true → IsOneOf (names_with bs) x) → (t : Bool) → bytes_eq x b.name ≡ t → (t || has_name x bs) ≡ true → IsOneOf (names_with (b ∷ bs)) x
    by go true e k = inl ((bytes_eq-Decides x b.name).0 e)
    by go false e k = inr (go k)

-- the first of distinct names is none of the others
pub first_alone : (b : Binder) (bs : List Binder) → AreDistinct (names_with (b ∷ bs)) → has_name b.name bs ≡ false
first_alone b bs u = not_true (has_name b.name bs) (λ h. u.0 (one_has bs b.name h))

-- each of distinct names has its datum
pub first_datum : (b : Binder) (bs : List Binder) (d : Datum) (ds : List Datum) (f : List ℕ → Datum) → AreDistinct (names_with (b ∷ bs)) → with_each f (b ∷ bs) (d ∷ ds) b.name ≡ d
first_datum b bs d ds f u = each_other bs (put f b.name d) ds b.name (first_alone b bs u) ∙ ap (λ t. if t then d else f b.name) ((bytes_eq-Decides b.name b.name).1 refl)

pub one_more : (n : ℕ) → 1 + n ≡ suc n
one_more n = omega arith

module _ (x : List ℕ) where
  abbrev pub first_at : List Binder → ℕ
  first_at bs = position_or_len (bytes_eq x) (names_with bs)

  within : (bs : List Binder) (s : Sort) → sort_named x bs ≡ Some s → first_at bs < length (names_with bs)
  within [] s e = absurd cc
  within (b ∷ bs) s e = by (within bs s) (bytes_eq x b.name) e
    where
      by : (sort_named x bs ≡ Some s → first_at bs < length (names_with bs)) → (t : Bool) → (if t then Some b.sort else sort_named x bs) ≡ Some s → cond (not t) (1 + first_at bs) 0 < suc (length (names_with bs))
      by go true i = omega arith
      by go false i = omega (arith, go i)

  pub place_is : (bs : List Binder) (s : Sort) → sort_named x bs ≡ Some s → place_of x bs ≡ first_at bs
  place_is bs s e = ap (λ t. unwrap_or (cond t (Some (first_at bs)) None) 0) (lt-ltb (first_at bs) (length (names_with bs)) (within bs s e))

  datum_first : (bs : List Binder) (s : Sort) (f : List ℕ → Datum) (ds : List Datum) (d : Datum) → AreDistinct (names_with bs) → AreFor bs ds → sort_named x bs ≡ Some s → nth ds (first_at bs) ≡ Some d → with_each f bs ds x ≡ d
  datum_first [] s f ds d u a e h = absurd cc
  datum_first (b ∷ bs) s f [] d u a e h = absurd a
  datum_first (b ∷ bs) s f (c ∷ ds) d u a e h = by (datum_first bs s (put f b.name c) ds d u.1 a.1) (bytes_eq x b.name) refl e h
    where
      by : (sort_named x bs ≡ Some s → nth ds (first_at bs) ≡ Some d → with_each (put f b.name c) bs ds x ≡ d) → (t : Bool) → bytes_eq x b.name ≡ t → (if t then Some b.sort else sort_named x bs) ≡ Some s → nth (c ∷ ds) (cond (not t) (1 + first_at bs) 0) ≡ Some d → with_each (put f b.name c) bs ds x ≡ d
      by go true i k j =
          let same : c ≡ d = cc in
          subst (λ y. with_each (put f b.name c) bs ds y ≡ d) (sym ((bytes_eq-Decides x b.name).0 i)) (first_datum b bs c ds f u ∙ same)
      by go false i k j = go k (subst (λ m. nth (c ∷ ds) m ≡ Some d) (one_more (first_at bs)) j)

  pub datum_at : (bs : List Binder) (s : Sort) (f : List ℕ → Datum) (ds : List Datum) (d : Datum) → AreDistinct (names_with bs) → AreFor bs ds → sort_named x bs ≡ Some s → nth ds (place_of x bs) ≡ Some d → with_each f bs ds x ≡ d
  datum_at bs s f ds d u a e h = datum_first bs s f ds d u a e (subst (λ k. nth ds k ≡ Some d) (place_is bs s e) h)
