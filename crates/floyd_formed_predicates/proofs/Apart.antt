-- A well-formed assertion stays so where its existentials get other names.
use Rattle.std.proofs.Common.{◌≡◌, ℕ, ◌+◌, ◌<◌, ◌^◌, Bool, true, false, ◌||◌, cond, ◌⊎◌, inl, inr, ⊎_elim, List, [], ◌∷◌, ◌++◌, map, length, Option, Some, None, refl, sym, ◌∙◌, ap, subst, arith, true≢false, append_assoc, append-nil}
use Rattle.std.specs.Prelude.{if◌then◌else◌, bytes_eq}
use Rattle.std.specs.List.{flat_map, list_any}
use Rattle.std.specs.Map.{lookup}
use Rattle.std.proofs.lemmas.Bool.{or_cases, or_left, or_right}
use Rattle.std.proofs.lemmas.List.{length-append}
use Rattle.std.proofs.lemmas.List.Folds.{list_any-append}
use Rattle.std.proofs.lemmas.Slice.Eq.{bytes_eq-Decides}
use Rattle.floyd_tree_sorts.specs.declared.sorts.Sort.{Sort}
use Rattle.floyd_tree.specs.Formulas.{PlainFormula, formula_mentions, formula_sizes, formulas, formulas_mention}
use Rattle.floyd_tree.specs.Plain.{Plain, mentions, mentions_in, plains, sizes}
use Rattle.floyd_tree_values.specs.Rules.{AreDistinct, IsOneOf, Scope}
use Rattle.floyd_truth.specs.Capture.{Becomes, Put, Called, Changes, bound_in, bound_in_some, marked, most_marks, unmarked_from}
use Rattle.floyd_truth.specs.Replace.{HasSortOf, replaced_formula}
use Rattle.floyd_truth.proofs.Fresh.{neither, not_true, weight}
use Rattle.floyd_truth.proofs.Marks.{Found, finds}
use Rattle.floyd_assert_trees.specs.declared.assertion.Assertion.{Assertion}
use Rattle.floyd_assert_trees.specs.declared.binder.Binder.{Binder}
use Rattle.floyd_assert_trees.specs.declared.items.Defs.{Defs}
use Rattle.floyd_assert_trees.specs.declared.spec.SpecTable.{SpecTable}
use Rattle.floyd_assert_changes.specs.Apart.{apart, apart_existentials, apart_name, is_taken}
use Rattle.floyd_assert_changes.specs.Changed.{below_existentials, body_binds, body_mentions, has_name, local_terms, part_terms, terms_in}
use Rattle.floyd_assert_laws.specs.InChanged.{body_nodes}
use Rattle.floyd_goal_forms.specs.Assertions.{AssertionFits, inner_scope}
use Rattle.floyd_goal_forms.specs.Terms.{FormulasFit, names_with, scope_with}
use Rattle.floyd_import_laws.proofs.Collected.{name_append, occurring, occurring_few, occurs}
use Rattle.floyd_import_laws.proofs.Freed.{IsFree, IsNew, names_from, new_is}
use Rattle.floyd_import_laws.proofs.Distinct.{stay_apart}
use Rattle.floyd_formed_quantifiers.proofs.Leading.{IsApart, Leads, LeadsBy, Ready, itself, ready_part}
use Rattle.floyd_formed_quantifiers.proofs.Replacing.{changed_formed}
use Rattle.floyd_formed_entail.proofs.Changing.{AreInside, IsInside, apart as parted, locals_changed, names_stay, parts_changed}
use Rattle.floyd_pure_formulas.proofs.Substituting.{Suiting}

other_name : (x y : List ℕ) → (x ≡ y → ⊥) → bytes_eq x y ≡ false
other_name x y h = not_true (bytes_eq x y) (λ e. h ((bytes_eq-Decides x y).0 e))

both_false : (a b : Bool) → a ≡ false → b ≡ false → (a || b) ≡ false
both_false true b h k = absurd cc
both_false false b h k = k

most_is : most_marks ≡ 2 ^ 63
unfolding most_marks
most_is = refl

-- ---- variables with other names

-- the last of variables is found where none before has its name
last_found : (xs : List Binder) (b : Binder) (scope : Scope) → has_name b.name xs ≡ false → lookup (bytes_eq b.name) (scope_with (xs ++ b ∷ []) ++ scope) ≡ Some b.sort
last_found [] b scope e = ap (λ t. cond t (Some b.sort) (lookup (bytes_eq b.name) scope)) (itself b.name)
last_found (x ∷ xs) b scope e =
    let p = neither (bytes_eq b.name x.name) (has_name b.name xs) e in
    ap (λ t. cond t (Some x.sort) (lookup (bytes_eq b.name) (scope_with (xs ++ b ∷ []) ++ scope))) p.0 ∙ last_found xs b scope p.1

other_found : (xs : List Binder) (b : Binder) (scope : Scope) (v : List ℕ) → bytes_eq v b.name ≡ false → lookup (bytes_eq v) (scope_with (xs ++ b ∷ []) ++ scope) ≡ lookup (bytes_eq v) (scope_with xs ++ scope)
other_found [] b scope v e = ap (λ t. cond t (Some b.sort) (lookup (bytes_eq v) scope)) e
other_found (x ∷ xs) b scope v e = ap (cond (bytes_eq v x.name) (Some x.sort)) (other_found xs b scope v e)

in_middle : (xs : List Binder) (b : Binder) (more : List Binder) → IsOneOf (names_with (xs ++ b ∷ more)) b.name
in_middle [] b more = inl refl
in_middle (x ∷ xs) b more = inr (in_middle xs b more)

not_before : (xs : List Binder) (b : Binder) (more : List Binder) → AreDistinct (names_with (xs ++ b ∷ more)) → has_name b.name xs ≡ false
not_before [] b more d = refl
not_before (x ∷ xs) b more d =
    both_false (bytes_eq b.name x.name) (has_name b.name xs) (other_name b.name x.name (λ e. d.0 (subst (IsOneOf (names_with (xs ++ b ∷ more))) e (in_middle xs b more)))) (not_before xs b more d.1)

-- ---- the new names

module _ (avoided : List ℕ → Bool) (avoid : List (List ℕ)) (among : (y : List ℕ) → avoided y ≡ true → list_any (bytes_eq y) avoid ≡ true) (a : Assertion) where
  free_name : (others : List Binder) (x y : List ℕ) → Found (is_taken avoided a others) x y → IsFree avoided a others x y
  free_name others x y found =
      let p = neither (avoided y) (body_mentions a y || (body_binds a y || has_name y others)) found.free in
      let q = neither (body_mentions a y) (body_binds a y || has_name y others) p.1 in
      let o = neither (body_binds a y) (has_name y others) q.1 in
      record { number = found.number; small = found.small; is = found.is; allowed = p.0; free = q.0; bound = o.0; other = o.1 }

  is_new : (others : List Binder) (x : List ℕ) → length avoid + formula_sizes (formulas a.props) + sizes (plains (terms_in a)) + length others < 2 ^ 63 → IsNew avoided a others x (apart_name avoided a others x)
  is_new others x l = by (avoided x) refl
    where
      among_all : (y : List ℕ) → is_taken avoided a others y ≡ true → list_any (bytes_eq y) (avoid ++ occurring a others) ≡ true
      among_all y t =
          list_any-append (bytes_eq y) avoid (occurring a others)
          ∙ ⊎_elim
          (λ e. or_left (list_any (bytes_eq y) avoid) (list_any (bytes_eq y) (occurring a others)) (among y e))
          (λ e. or_right (list_any (bytes_eq y) avoid) (list_any (bytes_eq y) (occurring a others)) (occurs a others y e))
          (or_cases (avoided y) (body_mentions a y || (body_binds a y || has_name y others)) t)

      by : (b : Bool) → avoided x ≡ b → IsNew avoided a others x (if b then unmarked_from (is_taken avoided a others) x most_marks 1 else x)
      by true e =
          inr (free_name others x _
          (finds (is_taken avoided a others) x most_marks 1 (avoid ++ occurring a others)
          (omega (arith, most_is, l, occurring_few a others, length-append avoid (occurring a others)))
          (omega (arith, most_is))
          (λ j low high t. among_all (marked x j) t)))
      by false e = inl (refl, e)

own_or_new : (avoided : List ℕ → Bool) (a : Assertion) (others : List Binder) (x y : List ℕ) → IsNew avoided a others x y → (y ≡ x) ⊎ (has_name y others ≡ false)
own_or_new avoided a others x y (inl p) = inl p.0
own_or_new avoided a others x y (inr p) = inr p.other

-- no new name is one to be avoided
new_allowed : (avoided : List ℕ → Bool) (a : Assertion) (others : List Binder) (x y : List ℕ) → IsNew avoided a others x y → avoided y ≡ false
new_allowed avoided a others x y (inl p) = subst (λ z. avoided z ≡ false) (sym p.0) p.1
new_allowed avoided a others x y (inr p) = p.allowed

module _ (avoided : List ℕ → Bool) (avoid : List (List ℕ)) (among : (y : List ℕ) → avoided y ≡ true → list_any (bytes_eq y) avoid ≡ true) (a : Assertion) where
  names_allowed : (done more : List Binder) (v : List ℕ) → length avoid + formula_sizes (formulas a.props) + sizes (plains (terms_in a)) + (length done + length more) < 2 ^ 63 → has_name v (names_from avoided a done more) ≡ true → avoided v ≡ false
  names_allowed done [] v l h = absurd cc
  names_allowed done (b ∷ more) v l h =
      let c : Binder = record { name = apart_name avoided a (done ++ more) b.name; sort = b.sort } in
      ⊎_elim
      (λ e. subst (λ z. avoided z ≡ false) (sym ((bytes_eq-Decides v c.name).0 e)) (new_allowed avoided a (done ++ more) b.name c.name (is_new avoided avoid among a (done ++ more) b.name (omega (arith, l, length-append done more)))))
      (λ e. names_allowed (done ++ c ∷ []) more v (omega (arith, l, length-append done (c ∷ []))) e)
      (or_cases (bytes_eq v c.name) (has_name v (names_from avoided a (done ++ c ∷ []) more)) h)

  pub apart_allowed : length avoid + body_nodes a < 2 ^ 63 → (v : List ℕ) → has_name v (apart avoided a).existentials ≡ true → avoided v ≡ false
  apart_allowed l v h = names_allowed [] a.existentials v (omega (arith, l)) (ap (has_name v) (sym (new_is avoided a)) ∙ h)

-- ---- what becomes of variables below existentials with new names

module _ (defs : Defs) (scope : Scope) (avoided : List ℕ → Bool) (a : Assertion) where
  abbrev Marked : List Binder → List ℕ → List ℕ → Type 0
  Marked more v z = IsApart (body_mentions a) (body_binds a) v z × (has_name z more ≡ false)

  -- once the existentials `before` have the names `done`, and `more` are left
  record State (before done more : List Binder) (now : Changes) : Type 0 where
    pub leads : (v : List ℕ) → body_mentions a v ≡ true → has_name v more ≡ false → Leads defs now (scope_with before ++ scope) (scope_with done ++ scope) v
    pub called : (v z : List ℕ) → lookup (bytes_eq v) now ≡ Some (Called z) → (has_name z done ≡ true) × ((v ≡ z) ⊎ Marked more v z)
    pub no_term : (v : List ℕ) (t : Plain) → lookup (bytes_eq v) now ≡ Some (Put t) → ⊥

  module _ (before done more : List Binder) (b c : Binder) (sort_is : c.sort ≡ b.sort) (now : Changes) (new : IsNew avoided a (done ++ more) b.name c.name) (s : State before done (b ∷ more) now) (own : has_name b.name before ≡ false) (fresh : has_name c.name done ≡ false) where
    -- c is no variable that is free below, but b itself
    not_free : (v : List ℕ) → body_mentions a v ≡ true → bytes_eq v b.name ≡ false → bytes_eq v c.name ≡ false
    not_free v m e = by new
      where
        by : IsNew avoided a (done ++ more) b.name c.name → bytes_eq v c.name ≡ false
        by (inl p) = subst (λ z. bytes_eq v z ≡ false) (sym p.0) e
        by (inr p) = other_name v c.name (λ q. true≢false (sym (subst (λ z. body_mentions a z ≡ true) q m) ∙ p.free))

    -- nor a name that was given before
    not_given : (z : List ℕ) → has_name z done ≡ true → bytes_eq z c.name ≡ false
    not_given z h = other_name z c.name (λ i. true≢false (sym (subst (λ y. has_name y done ≡ true) i h) ∙ fresh))

    leads_next : (v : List ℕ) → body_mentions a v ≡ true → has_name v more ≡ false → Leads defs ((b.name, Called c.name) ∷ now) (scope_with (before ++ b ∷ []) ++ scope) (scope_with (done ++ c ∷ []) ++ scope) v
    leads_next v m n r e = by (bytes_eq v b.name) refl
      where
        found : (o : Option Becomes) → lookup (bytes_eq v) now ≡ o → bytes_eq v b.name ≡ false → LeadsBy defs (scope_with done ++ scope) o v r → LeadsBy defs (scope_with (done ++ c ∷ []) ++ scope) o v r
        found (Some (Put t)) l i k = absurd (s.no_term v t l)
        found (Some (Called z)) l i k = other_found done c scope z (not_given z (s.called v z l).0) ∙ k
        found None l i k = other_found done c scope v (not_free v m i) ∙ k

        by : (t : Bool) → bytes_eq v b.name ≡ t → LeadsBy defs (scope_with (done ++ c ∷ []) ++ scope) (cond t (Some (Called c.name)) (lookup (bytes_eq v) now)) v r
        by true i =
            let here : lookup (bytes_eq b.name) (scope_with (before ++ b ∷ []) ++ scope) ≡ Some r = subst (λ y. lookup (bytes_eq y) (scope_with (before ++ b ∷ []) ++ scope) ≡ Some r) ((bytes_eq-Decides v b.name).0 i) e in
            last_found done c scope fresh ∙ ap (λ q. Some q) sort_is ∙ sym (last_found before b scope own) ∙ here
        by false i =
            found (lookup (bytes_eq v) now) refl i (s.leads v m (both_false (bytes_eq v b.name) (has_name v more) i n) r (sym (other_found before b scope v i) ∙ e))

    given : has_name c.name (done ++ c ∷ []) ≡ true
    given = name_append c.name done (c ∷ []) ∙ or_right (has_name c.name done) (bytes_eq c.name c.name || false) (or_left (bytes_eq c.name c.name) false (itself c.name))

    still_given : (z : List ℕ) → has_name z done ≡ true → has_name z (done ++ c ∷ []) ≡ true
    still_given z h = name_append z done (c ∷ []) ∙ or_left (has_name z done) (has_name z (c ∷ [])) h

    called_next : (v z : List ℕ) → lookup (bytes_eq v) ((b.name, Called c.name) ∷ now) ≡ Some (Called z) → (has_name z (done ++ c ∷ []) ≡ true) × ((v ≡ z) ⊎ Marked more v z)
    called_next v z l = by (bytes_eq v b.name) refl l
      where
        here : v ≡ b.name → c.name ≡ z → IsNew avoided a (done ++ more) b.name c.name → (v ≡ z) ⊎ Marked more v z
        here q e (inl p) = inl (q ∙ sym p.0 ∙ e)
        here q e (inr p) =
            inr (
              record {
                number = p.number;
                small = p.small;
                is = sym e ∙ p.is ∙ ap (λ n. marked n p.number) (sym q);
                not_free = subst (λ n. body_mentions a n ≡ false) e p.free;
                not_bound = subst (λ n. body_binds a n ≡ false) e p.bound;
              },
              subst (λ n. has_name n more ≡ false) e (neither (has_name c.name done) (has_name c.name more) (sym (name_append c.name done more) ∙ p.other)).1,
            )

        further : (v ≡ z) ⊎ Marked (b ∷ more) v z → (v ≡ z) ⊎ Marked more v z
        further (inl q) = inl q
        further (inr q) = inr (q.0, (neither (bytes_eq z b.name) (has_name z more) q.1).1)

        by : (t : Bool) → bytes_eq v b.name ≡ t → cond t (Some (Called c.name)) (lookup (bytes_eq v) now) ≡ Some (Called z) → (has_name z (done ++ c ∷ []) ≡ true) × ((v ≡ z) ⊎ Marked more v z)
        by true q e =
            let p : c.name ≡ z = cc in
            (subst (λ n. has_name n (done ++ c ∷ []) ≡ true) p given, here ((bytes_eq-Decides v b.name).0 q) p new)
        by false q e = let k = s.called v z e in (still_given z k.0, further k.1)

    no_term_next : (v : List ℕ) (t : Plain) → lookup (bytes_eq v) ((b.name, Called c.name) ∷ now) ≡ Some (Put t) → ⊥
    no_term_next v t l = by (bytes_eq v b.name) l
      where
        by : (q : Bool) → cond q (Some (Called c.name)) (lookup (bytes_eq v) now) ≡ Some (Put t) → ⊥
        by true e = absurd cc
        by false e = s.no_term v t e

    next : State (before ++ b ∷ []) (done ++ c ∷ []) more ((b.name, Called c.name) ∷ now)
    next = record { leads = leads_next; called = called_next; no_term = no_term_next }

  -- what is known once all have their names
  record Renamed (old new : List Binder) (now : Changes) : Type 0 where
    pub ready : Ready defs now (scope_with old ++ scope) (scope_with new ++ scope) (body_mentions a) (body_binds a)
    pub no_term : (v : List ℕ) (t : Plain) → lookup (bytes_eq v) now ≡ Some (Put t) → ⊥

  all_done : (before done : List Binder) (now : Changes) → State before done [] now → Renamed before done now
  all_done before done now s = record { ready = record { leads = λ v e. s.leads v e refl; kept = λ v z l. last v z (s.called v z l).1 }; no_term = s.no_term }
    where
      last : (v z : List ℕ) → (v ≡ z) ⊎ Marked [] v z → (v ≡ z) ⊎ IsApart (body_mentions a) (body_binds a) v z
      last v z (inl q) = inl q
      last v z (inr q) = inr q.0

  module _ (avoid : List (List ℕ)) (among : (y : List ℕ) → avoided y ≡ true → list_any (bytes_eq y) avoid ≡ true) where
    go : (before done more : List Binder) (now : Changes) → length avoid + formula_sizes (formulas a.props) + sizes (plains (terms_in a)) + (length done + length more) < 2 ^ 63 → AreDistinct (names_with (before ++ more)) → AreDistinct (names_with (done ++ names_from avoided a done more)) → State before done more now →
        Renamed (before ++ more) (done ++ names_from avoided a done more) (below_existentials now more (names_from avoided a done more))
    go before done [] now l d f s =
        subst (λ xs. Renamed xs (done ++ []) now) (sym (append-nil before)) (subst (λ xs. Renamed before xs now) (sym (append-nil done)) (all_done before done now s))
    go before done (b ∷ more) now l d f s =
        let c : Binder = record { name = apart_name avoided a (done ++ more) b.name; sort = b.sort } in
        let rest = names_from avoided a (done ++ c ∷ []) more in
        let changes = below_existentials ((b.name, Called c.name) ∷ now) more rest in
        let olds = append_assoc before (b ∷ []) more in
        let news = append_assoc done (c ∷ []) rest in
        let inner = next before done more b c refl now (is_new avoided avoid among a (done ++ more) b.name (omega (arith, l, length-append done more))) s (not_before before b more d) (not_before done c rest f) in
        subst (λ xs. Renamed xs (done ++ c ∷ rest) changes) olds
        (subst (λ xs. Renamed ((before ++ b ∷ []) ++ more) xs changes) news
        (go (before ++ b ∷ []) (done ++ c ∷ []) more ((b.name, Called c.name) ∷ now)
        (omega (arith, l, length-append done (c ∷ [])))
        (subst (λ xs. AreDistinct (names_with xs)) (sym olds) d)
        (subst (λ xs. AreDistinct (names_with xs)) (sym news) f)
        inner))

-- ---- what stands below them

weight_none : weight [] ≡ 0
weight_none = refl

weight_inside : (old new : List Binder) (ch : Changes) → weight (below_existentials ch old new) ≡ weight ch
weight_inside [] new ch = refl
weight_inside (b ∷ old) [] ch = refl
weight_inside (b ∷ old) (c ∷ new) ch = weight_inside old new ((b.name, Called c.name) ∷ ch)

module _ (defs : Defs) (specs : SpecTable) (changes : Changes) (old new : Scope) (free bound : List ℕ → Bool) (suits : Suiting changes old) (ready : Ready defs changes old new free bound) where
  -- the formulas of PROP
  props_changed : (fs : List PlainFormula) → weight changes + formula_sizes (formulas fs) < 2 ^ 63 → ((v : List ℕ) → formulas_mention v (formulas fs) ≡ true → free v ≡ true) → ((v : List ℕ) → bound_in_some v (formulas fs) ≡ true → bound v ≡ true) →
      FormulasFit defs specs old fs → FormulasFit defs specs new (map (replaced_formula changes) fs)
  props_changed [] l k q h = tt
  props_changed (f ∷ fs) l k q h = (
    changed_formed defs specs changes old new f suits (omega (arith, l))
        (ready_part defs changes old new free bound ready (λ v. formula_mentions v f) (λ v. bound_in v f)
        (λ v e. k v (or_left (formula_mentions v f) (formulas_mention v (formulas fs)) e)) (λ v e. q v (or_left (bound_in v f) (bound_in_some v (formulas fs)) e)))
        h.0,
    props_changed fs (omega (arith, l)) (λ v e. k v (or_right (formula_mentions v f) (formulas_mention v (formulas fs)) e)) (λ v e. q v (or_right (bound_in v f) (bound_in_some v (formulas fs)) e)) h.1,
  )

  -- what is free in a list of terms
  terms_inside : (ts : List Plain) → ((v : List ℕ) → mentions_in v (plains ts) ≡ true → free v ≡ true) → AreInside defs changes old new free ready.leads ts
  terms_inside [] k = tt
  terms_inside (t ∷ ts) k = ((λ v i. k v (or_left (mentions v t) (mentions_in v (plains ts)) i)), terms_inside ts (λ v i. k v (or_right (mentions v t) (mentions_in v (plains ts)) i)))

no_term_suits : (ch : Changes) → ((v : List ℕ) (t : Plain) → lookup (bytes_eq v) ch ≡ Some (Put t) → ⊥) → (v : List ℕ) (s : Sort) → HasSortOf (lookup (bytes_eq v) ch) s
no_term_suits ch k v s = by (lookup (bytes_eq v) ch) refl
  where
    by : (o : Option Becomes) → lookup (bytes_eq v) ch ≡ o → HasSortOf o s
    by (Some (Put t)) e = absurd (k v t e)
    by (Some (Called y)) e = tt
    by None e = tt

pub apart_formed : (defs : Defs) (specs : SpecTable) (scope : Scope) (avoided : List ℕ → Bool) (avoid : List (List ℕ)) → ((y : List ℕ) → avoided y ≡ true → list_any (bytes_eq y) avoid ≡ true) → (a : Assertion) → length avoid + body_nodes a < 2 ^ 63 → AssertionFits defs specs scope a → AssertionFits defs specs scope (apart avoided a)
apart_formed defs specs scope avoided avoid among a small h =
    let less : length avoid + formula_sizes (formulas a.props) + sizes (plains (terms_in a)) + length a.existentials < 2 ^ 63 = omega (arith, small) in
    let names = apart_existentials avoided a in
    let from = names_from avoided a [] a.existentials in
    let from_distinct : AreDistinct (names_with from) = stay_apart (apart_name avoided a) (length a.existentials) (λ others x k. own_or_new avoided a others x (apart_name avoided a others x) (is_new avoided avoid among a others x (omega (arith, less, k)))) [] a.existentials (omega arith) h.existentials in
    let distinct = subst (λ xs. AreDistinct (names_with xs)) (sym (new_is avoided a)) from_distinct in
    let ch = below_existentials [] a.existentials names in
    let inner = inner_scope a scope in
    let outer = scope_with names ++ scope in
    let start : State defs scope avoided a [] [] a.existentials [] = record { leads = λ v m e r i. i; called = λ v z e. absurd cc; no_term = λ v t e. absurd cc } in
    let all : Renamed defs scope avoided a a.existentials names ch =
    subst (λ xs. Renamed defs scope avoided a a.existentials xs (below_existentials [] a.existentials xs)) (sym (new_is avoided a))
    (go defs scope avoided a avoid among [] [] a.existentials [] (omega (arith, less)) h.existentials from_distinct start) in
    let ready = all.ready in
    let suits : Suiting ch inner = λ v r e. no_term_suits ch all.no_term v r in
    let terms = terms_inside defs specs ch inner outer (body_mentions a) (body_binds a) suits ready (terms_in a) (λ v i. or_right (formulas_mention v (formulas a.props)) (mentions_in v (plains (terms_in a))) i) in
    let both = parted (IsInside defs ch inner outer (body_mentions a) ready.leads) (local_terms a.locals) (flat_map part_terms a.parts) terms in
    record {
      existentials = distinct;
      props = props_changed defs specs ch inner outer (body_mentions a) (body_binds a) suits ready a.props (omega (arith, less, weight_none, weight_inside a.existentials names []))
          (λ v i. or_left (formulas_mention v (formulas a.props)) (mentions_in v (plains (terms_in a))) i) (λ v i. i) h.props;
      temporaries = subst AreDistinct (sym (names_stay ch a.locals)) h.temporaries;
      locals = locals_changed defs ch inner outer (body_mentions a) ready.leads a.locals both.0 h.locals;
      parts = parts_changed defs ch inner outer (body_mentions a) ready.leads a.parts both.1 h.parts;
    }
