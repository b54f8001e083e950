-- A well-formed assertion stays so where its existentials get names apart from those that are taken elsewhere.
use Rattle.std.proofs.Common.{◌≡◌, ℕ, ◌+◌, ◌<◌, ◌^◌, Bool, true, false, inl, inr, List, [], ◌∷◌, ◌++◌, length, Some, refl, sym, ◌∙◌, ap, subst, arith, append_assoc, append-nil}
use Rattle.std.specs.Prelude.{bytes_eq, cond}
use Rattle.std.specs.List.{flat_map, list_any}
use Rattle.std.specs.Map.{lookup}
use Rattle.std.proofs.lemmas.List.{length-append}
use Rattle.floyd_tree_sorts.specs.declared.sorts.Sort.{Sort}
use Rattle.floyd_tree.specs.Formulas.{formula_sizes, formulas, formulas_mention}
use Rattle.floyd_tree.specs.Plain.{mentions_in, plains, sizes}
use Rattle.floyd_tree_values.specs.Rules.{AreDistinct, Scope}
use Rattle.floyd_truth.specs.Capture.{Called, Changes}
use Rattle.floyd_truth.specs.Replace.{HasSortOf}
use Rattle.floyd_truth.proofs.Fresh.{or_left, or_right}
use Rattle.floyd_assert_trees.specs.declared.assertion.Assertion.{Assertion}
use Rattle.floyd_assert_trees.specs.declared.binder.Binder.{Binder}
use Rattle.floyd_assert_trees.specs.declared.items.Defs.{Defs}
use Rattle.floyd_assert_trees.specs.declared.spec.SpecTable.{SpecTable}
use Rattle.floyd_assert_changes.specs.Apart.{apart as set_apart, apart_existentials, apart_name}
use Rattle.floyd_assert_changes.specs.Changed.{below_existentials, body_binds, body_mentions, has_name, local_terms, part_terms, terms_in}
use Rattle.floyd_assert_laws.specs.InChanged.{body_nodes}
use Rattle.floyd_assert_laws.proofs.NewNames.{IsNewName}
use Rattle.floyd_goal_forms.specs.Assertions.{AssertionFits}
use Rattle.floyd_goal_forms.specs.Terms.{names_with, scope_with}
use Rattle.floyd_import_laws.proofs.Freed.{IsNew, fresh_apart, fresh_new, names_allowed, names_from, new_is}
use Rattle.floyd_pure_formulas.proofs.Substituting.{Suiting}
use Rattle.floyd_formed_quantifiers.proofs.Leading.{Ready}
use Rattle.floyd_formed_entail.proofs.Changing.{IsInside, apart, locals_changed, names_stay, parts_changed}
use Rattle.floyd_formed_renaming.proofs.Assertions.{props_changed, terms_inside, weight_inside}
use Rattle.floyd_formed_renaming.proofs.Existentials.{State, all_done, next, not_before}

-- what is called otherwise below existentials keeps its sort
calls_suit : (old new : List Binder) (now : Changes) → ((v : List ℕ) (r : Sort) → HasSortOf (lookup (bytes_eq v) now) r) → (v : List ℕ) (r : Sort) → HasSortOf (lookup (bytes_eq v) (below_existentials now old new)) r
calls_suit [] new now k v r = k v r
calls_suit (b ∷ old) [] now k v r = k v r
calls_suit (b ∷ old) (c ∷ new) now k v r = calls_suit old new ((b.name, Called c.name) ∷ now) one v r
  where
    one : (w : List ℕ) (q : Sort) → HasSortOf (lookup (bytes_eq w) ((b.name, Called c.name) ∷ now)) q
    one w q = by (bytes_eq w b.name)
      where
        by : (t : Bool) → HasSortOf (cond t (Some (Called c.name)) (lookup (bytes_eq w) now)) q
        by true = tt
        by false = k w q

module _ (defs : Defs) (specs : SpecTable) (scope : Scope) (avoided : List ℕ → Bool) (avoid : List (List ℕ)) (among : (y : List ℕ) → avoided y ≡ true → list_any (bytes_eq y) avoid ≡ true) (a : Assertion) (few : length avoid + body_nodes a < 2 ^ 63) (h : AssertionFits defs specs scope a) where
  abbrev new : List Binder
  new = apart_existentials avoided a

  abbrev changes : Changes
  changes = below_existentials [] a.existentials new

  is_new : (others : List Binder) (x : List ℕ) → length avoid + formula_sizes (formulas a.props) + sizes (plains (terms_in a)) + length others < 2 ^ 63 → IsNewName [] a others x (apart_name avoided a others x)
  is_new others x l = by (apart_name avoided a others x) (fresh_new avoided avoid among a others x l)
    where
      by : (y : List ℕ) → IsNew avoided a others x y → IsNewName [] a others x y
      by y (inl p) = inl (p.0, refl)
      by y (inr p) = inr (record { number = p.number; small = p.small; is = p.is; terms = refl; free = p.free; bound = p.bound; other = p.other })

  abbrev from : List Binder → List Binder → List Binder
  from done more = names_from avoided a done more

  go : (before done more : List Binder) (now : Changes) → length avoid + formula_sizes (formulas a.props) + sizes (plains (terms_in a)) + (length done + length more) < 2 ^ 63 → a.existentials ≡ before ++ more → AreDistinct (names_with (before ++ more)) → AreDistinct (names_with (done ++ from done more)) → State defs [] a scope scope before done more now →
      Ready defs (below_existentials now more (from done more)) (scope_with (before ++ more) ++ scope) (scope_with (done ++ from done more) ++ scope) (body_mentions a) (body_binds a)
  go before done [] now l e d f s =
      subst (λ xs. Ready defs now (scope_with xs ++ scope) (scope_with (done ++ []) ++ scope) (body_mentions a) (body_binds a)) (sym (append-nil before))
      (subst (λ xs. Ready defs now (scope_with before ++ scope) (scope_with xs ++ scope) (body_mentions a) (body_binds a)) (sym (append-nil done)) (all_done defs [] a scope scope before done now s))
  go before done (b ∷ more) now l e d f s =
      let c : Binder = record { name = apart_name avoided a (done ++ more) b.name; sort = b.sort } in
      let rest = from (done ++ c ∷ []) more in
      let changed = below_existentials ((b.name, Called c.name) ∷ now) more rest in
      let olds = append_assoc before (b ∷ []) more in
      let news = append_assoc done (c ∷ []) rest in
      let inner = next defs [] a scope scope before done more b c refl now e (is_new (done ++ more) b.name (omega (arith, l, length-append done more))) s (not_before before b more d) (not_before done c rest f) in
      subst (λ xs. Ready defs changed (scope_with xs ++ scope) (scope_with (done ++ c ∷ rest) ++ scope) (body_mentions a) (body_binds a)) olds
      (subst (λ xs. Ready defs changed (scope_with ((before ++ b ∷ []) ++ more) ++ scope) (scope_with xs ++ scope) (body_mentions a) (body_binds a)) news
      (go (before ++ b ∷ []) (done ++ c ∷ []) more ((b.name, Called c.name) ∷ now)
      (omega (arith, l, length-append done (c ∷ [])))
      (e ∙ sym olds)
      (subst (λ xs. AreDistinct (names_with xs)) (sym olds) d)
      (subst (λ xs. AreDistinct (names_with xs)) (sym news) f)
      inner))

  distinct : AreDistinct (names_with new)
  distinct = fresh_apart avoided avoid among a few h.existentials

  start : State defs [] a scope scope [] [] a.existentials []
  start = record { leads = λ v m n r e. e; called = λ v z e. absurd cc; put' = λ v t e. absurd cc }

  ready : Ready defs changes (scope_with a.existentials ++ scope) (scope_with new ++ scope) (body_mentions a) (body_binds a)
  ready =
      subst (λ bs. Ready defs (below_existentials [] a.existentials bs) (scope_with a.existentials ++ scope) (scope_with bs ++ scope) (body_mentions a) (body_binds a)) (sym (new_is avoided a))
      (go [] [] a.existentials [] (omega (arith, few)) refl h.existentials (subst (λ bs. AreDistinct (names_with bs)) (new_is avoided a) distinct) start)

  suits : Suiting changes (scope_with a.existentials ++ scope)
  suits v r e = calls_suit a.existentials new [] (λ w q. tt) v r

  -- none of the new names is to be avoided
  pub new_names : (v : List ℕ) → has_name v new ≡ true → avoided v ≡ false
  new_names v k = names_allowed avoided avoid among a [] a.existentials v (omega (arith, few)) (ap (has_name v) (sym (new_is avoided a)) ∙ k)

  pub apart_formed : AssertionFits defs specs scope (set_apart avoided a)
  apart_formed =
      let inner = scope_with a.existentials ++ scope in
      let outer = scope_with new ++ scope in
      let free = body_mentions a in
      let bound = body_binds a in
      let terms = terms_inside defs specs changes inner outer free bound suits ready (terms_in a) (λ v i. or_right (formulas_mention v (formulas a.props)) (mentions_in v (plains (terms_in a))) i) in
      let both = apart (IsInside defs changes inner outer free ready.leads) (local_terms a.locals) (flat_map part_terms a.parts) terms in
      record {
        existentials = distinct;
        props = props_changed defs specs changes inner outer free bound suits ready a.props (omega (arith, few, weight_inside a.existentials new [])) (λ v i. or_left (formulas_mention v (formulas a.props)) (mentions_in v (plains (terms_in a))) i) (λ v i. i) h.props;
        temporaries = subst AreDistinct (sym (names_stay changes a.locals)) h.temporaries;
        locals = locals_changed defs changes inner outer free ready.leads a.locals both.0 h.locals;
        parts = parts_changed defs changes inner outer free ready.leads a.parts both.1 h.parts;
      }
