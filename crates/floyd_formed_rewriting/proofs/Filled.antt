-- What fills the holes makes of well-formed formulas and assertions well-formed ones.
use Rattle.std.proofs.Common.{◌≡◌, ℕ, ◌≤◌, Bool, true, false, ◌&&◌, cond, List, [], ◌∷◌, map, Option, Some, None, Result, Ok, Err, refl, sym, ap, subst, ◌∙◌, arith, leb-true}
use Rattle.std.specs.Prelude.{bytes_eq, nat_le}
use Rattle.std.specs.List.{AllByRecursion}
use Rattle.std.specs.Map.{lookup}
use Rattle.floyd_text.specs.declared.refusal.No.{No}
use Rattle.floyd_tree_sorts.specs.declared.heads.Head.TheVariants.{Variable}
use Rattle.floyd_tree_sorts.specs.declared.sorts.Sort.{Sort}
use Rattle.floyd_tree_sorts.proofs.SortLemmas.{both_true}
use Rattle.floyd_tree.specs.Formulas.{PlainFormula, formula_height, formula_mentions, formula_size, formula_sizes, formulas}
use Rattle.floyd_tree.specs.Made.{fits}
use Rattle.floyd_tree.specs.MadeFormulas.{formula_fits}
use Rattle.floyd_tree.specs.Plain.{Plain, At, Done, height, mentions, mentions_in, plains, size, sizes}
use Rattle.floyd_tree.specs.WellSorted.{sort_of}
use Rattle.floyd_tree_values.specs.Rules.{Scope}
use Rattle.floyd_truth.specs.Capture.{Becomes, Put, Called, Changes, bound_in}
use Rattle.floyd_truth.specs.Replace.{HasSortOf, puts, replaced_formula}
use Rattle.floyd_truth.proofs.Fresh.{neither, weight}
use Rattle.floyd_assert_trees.specs.declared.assertion.Assertion.{Assertion}
use Rattle.floyd_assert_trees.specs.declared.items.Defs.{Defs}
use Rattle.floyd_assert_trees.specs.declared.spec.SpecTable.{SpecTable}
use Rattle.floyd_assert_changes.specs.Changed.{assertion_after, assertion_fits, assertion_with, terms_in}
use Rattle.floyd_assert_changes.specs.Substituted.{formula_with}
use Rattle.floyd_assert_laws.specs.InChanged.{body_nodes}
use Rattle.floyd_goal_forms.specs.Assertions.{AssertionFits, inner_scope}
use Rattle.floyd_goal_forms.specs.Terms.{FormulaFits, TermFits}
use Rattle.floyd_pure_formulas.proofs.Substituting.{Suiting, formula_size_kept}
use Rattle.floyd_rewriting.specs.Holes.{assertion_opened, formula_opened, hole_for, hole_name, opened, opened_in}
use Rattle.floyd_rewriting.specs.HolesClauses.{IsHole}
use Rattle.floyd_rewriting.specs.Occurrences.{assertion_occurs, formula_occurs}
use Rattle.floyd_rewriting.specs.Rewritten.{assertion_filled, assertion_rewritten, by_hole, formula_filled, formula_rewritten, if_any, into_holes}
use Rattle.floyd_rewriting.proofs.Agreeing.{mapped_terms}
use Rattle.floyd_rewriting.proofs.FormulasOpened.{formula_sizes_less, formulas_opened_plain}
use Rattle.floyd_rewriting.proofs.HoleNames.{IsNowhere, hole_is, is_nowhere}
use Rattle.floyd_rewriting.proofs.TermsOpened.{opened_plains, sizes_less, sort_kept}
use Rattle.floyd_rewriting_soundness.specs.Small.{IsSmall}
use Rattle.floyd_formed_quantifiers.proofs.Leading.{Leads, LeadsBy}
use Rattle.floyd_formed_quantifiers.proofs.Replacing.{changed_formed}
use Rattle.floyd_formed_renaming.proofs.Assertions.{assertion_formed}
use Rattle.floyd_formed_simplifying.proofs.Mapped.{body_formed}
use Rattle.floyd_formed_rewriting.proofs.Opened.{Room, binders_below, in_front, term_opened}
use Rattle.floyd_formed_rewriting.proofs.OpenedFormulas.{formula_with_holes, formulas_with_holes}

-- ---- what the rewriting gave

record Made {T : Type 0} (new : Option (List ℕ)) (filled : List ℕ → Result T No) (made : T) : Type 0 where
  pub name : List ℕ
  pub is_new : new ≡ Some name
  pub is : filled name ≡ Ok made

some_made : {T : Type 0} (b : Bool) (r : Result T No) (made : T) → if_any b r ≡ Ok (Some made) → r ≡ Ok made
some_made true (Ok x) made e = cc
some_made true (Err refusal) made e = absurd cc
some_made false r made e = absurd cc

made_by : {T : Type 0} (new : Option (List ℕ)) (b : Bool) (filled : List ℕ → Result T No) (made : T) → by_hole new (λ name. if_any b (filled name)) ≡ Ok (Some made) → Made new filled made
made_by None b filled made e = absurd cc
made_by (Some name) b filled made e = record { name = name; is_new = refl; is = some_made b (filled name) made e }

within : {T : Type 0} (test : T → Bool) (a : T) (b : Bool) (refused : No) (made : T) → test a ≡ b → ◌≡◌ {A = Result T No} (cond b (Ok a) (Err refused)) (Ok made) → (a ≡ made) × (test a ≡ true)
within test a true refused made h e = (cc, h)
within test a false refused made h e = absurd cc

bound : (m n : ℕ) → (nat_le m 65536 && nat_le n 256) ≡ true → m ≤ 65536
bound m n h = leb-true m 65536 (both_true (nat_le m 65536) (nat_le n 256) h).0

away_from : (name : List ℕ) (ts : List Plain) → mentions_in name (plains ts) ≡ false → AllByRecursion (λ t. mentions name t ≡ false) ts
away_from name [] e = tt
away_from name (t ∷ ts) e = let p = neither (mentions name t) (mentions_in name (plains ts)) e in (p.0, away_from name ts p.1)

module _ (defs : Defs) (specs : SpecTable) (scope : Scope) (from to : Plain) (s : Sort) (sorted : sort_of from ≡ Some s) (put : TermFits defs scope s to) (small : fits from ≡ true) (to_small : fits to ≡ true) where
  module _ (name : List ℕ) where
    abbrev hole : Plain
    hole = At (Variable name s) Done

    abbrev large : Scope
    large = (name, s) ∷ scope

    abbrev changes : Changes
    changes = puts (into_holes name from to)

    is_hole : IsHole from hole
    is_hole = subst (λ q. IsHole from (hole_for name q)) sorted (hole_is name from s sorted)

    -- the holes are filled with the other term, and each other name stays
    leads : (v : List ℕ) → Leads defs changes large scope v
    leads v r e = by (bytes_eq v name) e
      where
        by : (b : Bool) → cond b (Some s) (lookup (bytes_eq v) scope) ≡ Some r → LeadsBy defs scope (cond b (Some (Put to)) (cond b (Some (Put from)) None)) v r
        by true i = let same : s ≡ r = cc in subst (λ q. TermFits defs scope q to) same put
        by false i = i

    none_called : (v z : List ℕ) → lookup (bytes_eq v) changes ≡ Some (Called z) → ⊥
    none_called v z e = by (bytes_eq v name) e
      where
        by : (b : Bool) → cond b (Some (Put to)) (cond b (Some (Put from)) None) ≡ Some (Called z) → ⊥
        by true i = cc
        by false i = cc

    suits : Suiting changes large
    suits v r e = by (lookup (bytes_eq v) changes) (leads v r e)
      where
        by : (o : Option Becomes) → LeadsBy defs scope o v r → HasSortOf o r
        by (Some (Put t)) k = k.fits.sorted
        by (Some (Called y)) k = tt
        by None k = tt

    few : weight changes ≤ 131072
    few = omega (arith, bound (size from) (height from) small, bound (size to) (height to) to_small)

    -- ---- a formula

    formula_made : (a made : PlainFormula) → formula_mentions name a ≡ false → bound_in name a ≡ false → FormulaFits defs specs scope a → formula_with (into_holes name from to) (formula_opened from hole a) ≡ Ok made → FormulaFits defs specs scope made
    formula_made a made free unbound h e =
        let holed = formula_opened from hole a in
        let after = replaced_formula changes holed in
        let p = within formula_fits after (formula_fits after) _ made refl e in
        let k = formula_with_holes defs specs name s from is_hole scope large (in_front name s scope) a free unbound h in
        let less : formula_size holed ≤ 65536 = omega (arith, formula_size_kept changes holed k.fits.sorted, bound (formula_size after) (formula_height after) p.1) in
        subst (FormulaFits defs specs scope) p.0
        (changed_formed defs specs changes large scope holed suits (omega (arith, few, less)) (record { leads = λ v i. leads v; kept = λ v z i. absurd (none_called v z i) }) k)

    -- ---- an assertion

    module _ (a : Assertion) (away : IsNowhere from a.existentials a.props (terms_in a) name) where
      abbrev with_holes : Assertion
      with_holes = assertion_opened from hole a

      inner_room : Room name s (inner_scope a scope) (inner_scope a large)
      inner_room = binders_below name s scope large a.existentials away.in_binders (in_front name s scope)

      with_holes_formed : AssertionFits defs specs scope a → AssertionFits defs specs large with_holes
      with_holes_formed h =
          let inner = inner_scope a scope in
          let outer = inner_scope a large in
          body_formed defs specs scope large a (opened from hole) (map (formula_opened from hole) a.props) (λ t. mentions name t ≡ false)
          (λ q t e k.
          let p = term_opened defs name s from inner outer inner_room t e k.fits.allowed k.known in
          record { fits = record { sorted = sort_kept from hole is_hole t ∙ k.fits.sorted; allowed = p.0 }; known = p.1 })
          (away_from name (terms_in a) away.in_terms)
          (formulas_with_holes defs specs name s from is_hole inner outer inner_room a.props away.free away.bound h.props)
          h

      fewer : body_nodes with_holes ≤ body_nodes a
      fewer =
          let terms_are : plains (terms_in with_holes) ≡ opened_in from hole (plains (terms_in a)) = ap plains (mapped_terms (opened from hole) (map (formula_opened from hole) a.props) a) ∙ sym (opened_plains from hole (terms_in a)) in
          let props : formula_sizes (formulas with_holes.props) ≤ formula_sizes (formulas a.props) = subst (λ fs. formula_sizes fs ≤ formula_sizes (formulas a.props)) (formulas_opened_plain from hole a.props) (formula_sizes_less from hole is_hole (formulas a.props)) in
          let terms : sizes (plains (terms_in with_holes)) ≤ sizes (plains (terms_in a)) = subst (λ ts. sizes ts ≤ sizes (plains (terms_in a))) (sym terms_are) (sizes_less from hole is_hole (plains (terms_in a))) in
          omega (arith, props, terms)

      assertion_made : (made : Assertion) → IsSmall a → AssertionFits defs specs scope a → assertion_with (into_holes name from to) with_holes ≡ Ok made → AssertionFits defs specs scope made
      assertion_made made little h e =
          let after = assertion_after changes with_holes in
          let p = within assertion_fits after (assertion_fits after) _ made refl e in
          subst (AssertionFits defs specs scope) p.0 (assertion_formed defs specs changes large scope with_holes (omega (arith, few, fewer, little)) leads none_called (with_holes_formed h))

  pub formula_formed : (a made : PlainFormula) → FormulaFits defs specs scope a → formula_rewritten from to a ≡ Ok (Some made) → FormulaFits defs specs scope made
  formula_formed a made h e =
      let m = made_by (hole_name from [] (a ∷ []) []) (formula_occurs from a) (formula_filled from to a) made e in
      let away = is_nowhere from [] (a ∷ []) [] m.name m.is_new in
      formula_made m.name a made (neither (formula_mentions m.name a) false away.free).0 (neither (bound_in m.name a) false away.bound).0 h
      (ap (λ q. formula_with (into_holes m.name from to) (formula_opened from (hole_for m.name q) a)) (sym sorted) ∙ m.is)

  pub rewritten_formed : (a made : Assertion) → IsSmall a → AssertionFits defs specs scope a → assertion_rewritten from to a ≡ Ok (Some made) → AssertionFits defs specs scope made
  rewritten_formed a made little h e =
      let m = made_by (hole_name from a.existentials a.props (terms_in a)) (assertion_occurs from a) (assertion_filled from to a) made e in
      assertion_made m.name a (is_nowhere from a.existentials a.props (terms_in a) m.name m.is_new) made little h
      (ap (λ q. assertion_with (into_holes m.name from to) (assertion_opened from (hole_for m.name q) a)) (sym sorted) ∙ m.is)
