-- LOCAL is well formed once a temporary is set.
use Rattle.std.proofs.Common.{◌≡◌, ℕ, ◌+◌, Bool, true, false, cond, inl, inr, List, [], ◌∷◌, ◌++◌, map, length, length-append, Some, append_assoc, refl, sym, ap, subst, ◌∙◌, bytes_eq, slice_set, true≢false, if◌then◌else◌}
use Rattle.std.specs.List.{AllByRecursion, position_from}
use Rattle.std.proofs.lemmas.Iterator.Adapters.{position_from-zero}
use Rattle.std.proofs.lemmas.Slice.Eq.{bytes_eq-Decides}
use Rattle.floyd_tree_sorts.specs.declared.sorts.Sort.{Val}
use Rattle.floyd_tree.specs.Plain.{Plain}
use Rattle.floyd_tree_values.specs.Rules.{AreDistinct, IsOneOf, Scope}
use Rattle.floyd_assert_trees.specs.declared.assertion.Assertion.{Assertion}
use Rattle.floyd_assert_trees.specs.declared.assertion.Local.{Local}
use Rattle.floyd_assert_trees.specs.declared.items.Defs.{Defs}
use Rattle.floyd_assert_trees.specs.declared.spec.SpecTable.{SpecTable}
use Rattle.floyd_goal_forms.specs.Assertions.{AssertionFits, inner_scope}
use Rattle.floyd_goal_forms.specs.Terms.{TermFits, scope_with}
use Rattle.floyd_forward.specs.Set.{local_place, put_local, with_temp}

module _ (x : List ℕ) (t : Plain) where
  abbrev new : Local
  new = record { name = x; term = t }

  abbrev Is : Local → Bool
  Is l = bytes_eq x l.name

  abbrev names : List Local → List (List ℕ)
  names ls = map (λ (l : Local). l.name) ls

  -- in the place of the first one of that name, or else last
  abbrev put : List Local → List Local
  put [] = new ∷ []
  put (a ∷ ls) = if bytes_eq x a.name then new ∷ ls else a ∷ put ls

  put_at : (before ls : List Local) (a : Local) → slice_set (before ++ a ∷ ls) (length before) new ≡ before ++ new ∷ ls
  put_at [] ls a = refl
  put_at (b ∷ before) ls a = ap (λ ks. b ∷ ks) (put_at before ls a)

  put_from : (before ls : List Local) → put_local new (position_from Is (length before) ls) (before ++ ls) ≡ before ++ put ls
  put_from before [] = append_assoc before [] (new ∷ [])
  put_from before (a ∷ ls) =
      by (bytes_eq x a.name)
      (subst (λ ks. put_local new (position_from Is (length before + 1) ls) ks ≡ before ++ a ∷ put ls) (append_assoc before (a ∷ []) ls)
      (subst (λ ks. put_local new (position_from Is (length before + 1) ls) ((before ++ a ∷ []) ++ ls) ≡ ks) (append_assoc before (a ∷ []) (put ls))
      (subst (λ n. put_local new (position_from Is n ls) ((before ++ a ∷ []) ++ ls) ≡ (before ++ a ∷ []) ++ put ls) (length-append before (a ∷ [])) (put_from (before ++ a ∷ []) ls))))
    where
      by : (b : Bool) → put_local new (position_from Is (length before + 1) ls) (before ++ a ∷ ls) ≡ before ++ a ∷ put ls → put_local new (cond b (Some (length before)) (position_from Is (length before + 1) ls)) (before ++ a ∷ ls) ≡ before ++ (if b then new ∷ ls else a ∷ put ls)
      by true later = put_at before ls a
      by false later = later

  put_is : (ls : List Local) → put_local new (local_place x ls) ls ≡ put ls
  put_is ls = ap (λ o. put_local new o ls) (position_from-zero Is ls) ∙ put_from [] ls

  put_each : (P : Local → Type 0) → P new → (ls : List Local) → AllByRecursion P ls → AllByRecursion P (put ls)
  put_each P p [] h = (p, tt)
  put_each P p (a ∷ ls) h = by (bytes_eq x a.name) (put_each P p ls h.1)
    where
      by : (b : Bool) → AllByRecursion P (put ls) → AllByRecursion P (if b then new ∷ ls else a ∷ put ls)
      by true later = (p, h.1)
      by false later = (h.0, later)

  put_others : (y : List ℕ) (ls : List Local) → (y ≡ x → ⊥) → (IsOneOf (names ls) y → ⊥) → IsOneOf (names (put ls)) y → ⊥
  put_others y [] ne out (inl e) = ne e
  put_others y [] ne out (inr k) = k
  put_others y (a ∷ ls) ne out k = by (bytes_eq x a.name) (put_others y ls ne (λ o. out (inr o))) k
    where
      by : (b : Bool) → (IsOneOf (names (put ls)) y → ⊥) → IsOneOf (names (if b then new ∷ ls else a ∷ put ls)) y → ⊥
      by true later (inl e) = ne e
      by true later (inr i) = out (inr i)
      by false later (inl e) = out (inl e)
      by false later (inr i) = later i

  put_distinct : (ls : List Local) → AreDistinct (names ls) → AreDistinct (names (put ls))
  put_distinct [] d = ((λ k. k), tt)
  put_distinct (a ∷ ls) d = by (bytes_eq x a.name) refl (put_distinct ls d.1)
    where
      by : (b : Bool) → bytes_eq x a.name ≡ b → AreDistinct (names (put ls)) → AreDistinct (names (if b then new ∷ ls else a ∷ put ls))
      by true e later = (subst (λ y. IsOneOf (names ls) y → ⊥) (sym ((bytes_eq-Decides x a.name).0 e)) d.0, d.1)
      by false e later = (put_others a.name ls (λ q. true≢false (sym ((bytes_eq-Decides x a.name).1 (sym q)) ∙ e)) d.0, later)

  module _ (defs : Defs) (specs : SpecTable) (scope : Scope) where
    pub with_temp_formed : (a : Assertion) → a.existentials ≡ [] → TermFits defs scope Val t → AssertionFits defs specs scope a → AssertionFits defs specs scope (with_temp x t a)
    with_temp_formed a bare k h =
        let inner = inner_scope a scope in
        let same : inner ≡ scope = ap (λ bs. scope_with bs ++ scope) bare in
        let is = put_is a.locals in
        let P = λ (l : Local). TermFits defs inner Val l.term in
        record {
          existentials = h.existentials;
          props = h.props;
          temporaries = subst (λ ls. AreDistinct (names ls)) (sym is) (put_distinct a.locals h.temporaries);
          locals = subst (AllByRecursion P) (sym is) (put_each P (subst (λ s. TermFits defs s Val t) (sym same) k) a.locals h.locals);
          parts = h.parts;
        }
