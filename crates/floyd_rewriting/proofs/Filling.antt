-- What is put into the holes, as the program answers it.
use Rattle.std.proofs.Common.{◌≡◌, ℕ, Bool, true, false, List, [], ◌∷◌, Some, None, Result, Ok, refl, sym, ap, subst, ◌∙◌}
use Rattle.floyd_text.specs.declared.refusal.No.{No}
use Rattle.floyd_text.specs.declared.refusal.RuleStop.{RuleStop}
use Rattle.floyd_text.specs.declared.refusal.RuleStop.TheVariants as r
use Rattle.floyd_text.specs.Gives.{RuleStops}
use Rattle.floyd_tree_sorts.specs.declared.sorts.Sort.{Sort}
use Rattle.floyd_tree.specs.Formulas.{PlainFormula, formula_mentions}
use Rattle.floyd_tree.specs.Plain.{Plain}
use Rattle.floyd_tree.specs.WellSorted.{sort_of}
use Rattle.floyd_truth.specs.Capture.{bound_in}
use Rattle.floyd_truth.specs.Replace.{FormulaSortsAgree, puts}
use Rattle.floyd_truth.proofs.Fresh.{neither}
use Rattle.floyd_assert_trees.specs.declared.assertion.Assertion.{Assertion}
use Rattle.floyd_assert_changes.specs.Changed.{AssertionSortsAgree, assertion_with, terms_in}
use Rattle.floyd_assert_changes.specs.Substituted.{formula_with}
use Rattle.floyd_rewriting.specs.Holes.{assertion_opened, formula_opened, hole_for, hole_name}
use Rattle.floyd_rewriting.specs.HolesClauses.{assertion_after, formula_after}
use Rattle.floyd_rewriting.specs.Occurrences.{assertion_occurs, formula_occurs}
use Rattle.floyd_rewriting.specs.Rewritten.{assertion_filled, formula_filled, if_any, into_holes}
use Rattle.floyd_rewriting.proofs.Agreeing.{assertion_holes_agree, formula_holes_agree}
use Rattle.floyd_rewriting.proofs.HoleNames.{is_nowhere}
use Rattle.floyd_rewriting.proofs.TermsOpened.{none_so, some_so}

-- nothing is put where there is no occurrence
any_none : {T : Type 0} (b : Bool) (made : Result T No) → b ≡ false → if_any b made ≡ Ok None
any_none true made e = absurd cc
any_none false made e = refl

any_some : {T : Type 0} (b : Bool) (made : Result T No) (x : T) → b ≡ true → made ≡ Ok x → if_any b made ≡ Ok (Some x)
any_some true made x e i = ap (if_any true) i
any_some false made x e i = absurd cc

any_stops : {T : Type 0} (b : Bool) (made : Result T No) (stop : RuleStop) → b ≡ true → RuleStops stop made → RuleStops stop (if_any b made)
any_stops true made (r.No refusal) e i = ap (if_any true) i
any_stops true made r.Memory e i = tt
any_stops false made stop e i = absurd cc

module _ (from to : Plain) (f : PlainFormula) (hole : Plain) (name : List ℕ) (is : hole ≡ hole_for name (sort_of from)) where
  pub formula_nowhere : None ≡ formula_after from hole f → if_any (formula_occurs from f) (formula_filled from to f name) ≡ Ok None
  formula_nowhere e = any_none (formula_occurs from f) (formula_filled from to f name) (none_so (formula_occurs from f) (formula_opened from hole f) e)

  with_hole : (opened : PlainFormula) → Some opened ≡ formula_after from hole f → (formula_occurs from f ≡ true) × (formula_with (into_holes name from to) opened ≡ formula_filled from to f name)
  with_hole opened e =
      let p = some_so (formula_occurs from f) (formula_opened from hole f) opened e in
      (p.0, ap (formula_with (into_holes name from to)) (p.1 ∙ ap (λ h. formula_opened from h f) is))

  pub formula_somewhere : (opened made : PlainFormula) → Some opened ≡ formula_after from hole f → formula_with (into_holes name from to) opened ≡ Ok made → if_any (formula_occurs from f) (formula_filled from to f name) ≡ Ok (Some made)
  formula_somewhere opened made e i =
      let p = with_hole opened e in
      any_some (formula_occurs from f) (formula_filled from to f name) made p.0 (sym p.1 ∙ i)

  pub formula_stopped : (opened : PlainFormula) (stop : RuleStop) → Some opened ≡ formula_after from hole f → RuleStops stop (formula_with (into_holes name from to) opened) → RuleStops stop (if_any (formula_occurs from f) (formula_filled from to f name))
  formula_stopped opened stop e i =
      let p = with_hole opened e in
      any_stops (formula_occurs from f) (formula_filled from to f name) stop p.0 (subst (RuleStops stop) p.1 i)

  pub formula_ready : (opened : PlainFormula) (s : Sort) → Some opened ≡ formula_after from hole f → sort_of from ≡ Some s → sort_of from ≡ sort_of to → hole_name from [] (f ∷ []) [] ≡ Some name → FormulaSortsAgree (puts (into_holes name from to)) opened
  formula_ready opened s e i j n =
      let p = some_so (formula_occurs from f) (formula_opened from hole f) opened e in
      let away = is_nowhere from [] (f ∷ []) [] name n in
      subst (FormulaSortsAgree (puts (into_holes name from to))) (sym (p.1 ∙ ap (λ h. formula_opened from h f) is))
      (formula_holes_agree name from to s f i (sym j ∙ i) (neither (formula_mentions name f) false away.free).0 (neither (bound_in name f) false away.bound).0)

module _ (from to : Plain) (a : Assertion) (hole : Plain) (name : List ℕ) (is : hole ≡ hole_for name (sort_of from)) where
  pub assertion_nowhere : None ≡ assertion_after from hole a → if_any (assertion_occurs from a) (assertion_filled from to a name) ≡ Ok None
  assertion_nowhere e = any_none (assertion_occurs from a) (assertion_filled from to a name) (none_so (assertion_occurs from a) (assertion_opened from hole a) e)

  over_hole : (opened : Assertion) → Some opened ≡ assertion_after from hole a → (assertion_occurs from a ≡ true) × (assertion_with (into_holes name from to) opened ≡ assertion_filled from to a name)
  over_hole opened e =
      let p = some_so (assertion_occurs from a) (assertion_opened from hole a) opened e in
      (p.0, ap (assertion_with (into_holes name from to)) (p.1 ∙ ap (λ h. assertion_opened from h a) is))

  pub assertion_somewhere : (opened made : Assertion) → Some opened ≡ assertion_after from hole a → assertion_with (into_holes name from to) opened ≡ Ok made → if_any (assertion_occurs from a) (assertion_filled from to a name) ≡ Ok (Some made)
  assertion_somewhere opened made e i =
      let p = over_hole opened e in
      any_some (assertion_occurs from a) (assertion_filled from to a name) made p.0 (sym p.1 ∙ i)

  pub assertion_stopped : (opened : Assertion) (stop : RuleStop) → Some opened ≡ assertion_after from hole a → RuleStops stop (assertion_with (into_holes name from to) opened) → RuleStops stop (if_any (assertion_occurs from a) (assertion_filled from to a name))
  assertion_stopped opened stop e i =
      let p = over_hole opened e in
      any_stops (assertion_occurs from a) (assertion_filled from to a name) stop p.0 (subst (RuleStops stop) p.1 i)

  pub assertion_ready : (opened : Assertion) (s : Sort) → Some opened ≡ assertion_after from hole a → sort_of from ≡ Some s → sort_of from ≡ sort_of to → hole_name from a.existentials a.props (terms_in a) ≡ Some name → AssertionSortsAgree (puts (into_holes name from to)) opened
  assertion_ready opened s e i j n =
      let p = some_so (assertion_occurs from a) (assertion_opened from hole a) opened e in
      subst (AssertionSortsAgree (puts (into_holes name from to))) (sym (p.1 ∙ ap (λ h. assertion_opened from h a) is))
      (assertion_holes_agree name from to s a i (sym j ∙ i) (is_nowhere from a.existentials a.props (terms_in a) name n))
