-- The instance of a well-formed body at a well-formed term is well formed.
use Rattle.std.proofs.Common.{◌≡◌, ℕ, ◌≤◌, Bool, true, false, ◌&&◌, List, [], ◌∷◌, Option, Some, None, subst, ◌∙◌, arith, leb-true}
use Rattle.std.specs.Prelude.{bytes_eq, cond, nat_le}
use Rattle.std.specs.Map.{lookup}
use Rattle.floyd_tree_sorts.specs.declared.sorts.Sort.{Sort}
use Rattle.floyd_tree_sorts.proofs.SortLemmas.{both_true}
use Rattle.floyd_tree.specs.Formulas.{PlainFormula, formula_height, formula_mentions, formula_size}
use Rattle.floyd_tree.specs.Made.{fits}
use Rattle.floyd_tree.specs.Plain.{Plain, height, size}
use Rattle.floyd_tree_values.specs.Rules.{Scope}
use Rattle.floyd_truth.specs.Capture.{Becomes, Called, Put, bound_in}
use Rattle.floyd_truth.specs.Replace.{HasSortOf, puts, replaced_formula}
use Rattle.floyd_assert_trees.specs.declared.items.Defs.{Defs}
use Rattle.floyd_assert_trees.specs.declared.spec.SpecTable.{SpecTable}
use Rattle.floyd_goal_forms.specs.Terms.{FormulaFits, TermFits}
use Rattle.floyd_pure_formulas.proofs.Substituting.{Instantiated, Suiting, formula_size_kept}
use Rattle.floyd_formed_pure.proofs.Contexts.{AreIn}
use Rattle.floyd_formed_quantifiers.proofs.Leading.{Leads, LeadsBy, Ready}
use Rattle.floyd_formed_quantifiers.proofs.Replacing.{changed_formed}

within : (m n : ℕ) → (nat_le m 65536 && nat_le n 256) ≡ true → m ≤ 65536
within m n h = leb-true m 65536 (both_true (nat_le m 65536) (nat_le n 256) h).0

module _ (defs : Defs) (specs : SpecTable) (scope new : Scope) (x : List ℕ) (s : Sort) (t : Plain) (larger : AreIn scope new) (fit : TermFits defs new s t) where
  suits : Suiting (puts ((x, t) ∷ [])) ((x, s) ∷ scope)
  suits v r e = by (bytes_eq v x) e
    where
      by : (b : Bool) → cond b (Some s) (lookup (bytes_eq v) scope) ≡ Some r → HasSortOf (cond b (Some (Put t)) None) r
      by true i = fit.fits.sorted ∙ i
      by false i = tt

  leads : (v : List ℕ) → Leads defs (puts ((x, t) ∷ [])) ((x, s) ∷ scope) new v
  leads v r e = by (bytes_eq v x) e
    where
      by : (b : Bool) → cond b (Some s) (lookup (bytes_eq v) scope) ≡ Some r → LeadsBy defs new (cond b (Some (Put t)) None) v r
      by true i = let same : s ≡ r = cc in subst (λ q. TermFits defs new q t) same fit
      by false i = larger v r i

  none_called : (v z : List ℕ) (b : Bool) → ◌≡◌ {A = Option Becomes} (cond b (Some (Put t)) None) (Some (Called z)) → ⊥
  none_called v z true e = cc
  none_called v z false e = cc

  ready : (free bound : List ℕ → Bool) → Ready defs (puts ((x, t) ∷ [])) ((x, s) ∷ scope) new free bound
  ready free bound = record { leads = λ v e. leads v; kept = λ v z e. absurd (none_called v z (bytes_eq v x) e) }

  pub instance_formed : (body made : PlainFormula) → FormulaFits defs specs ((x, s) ∷ scope) body → Instantiated x s body t made → fits t ≡ true → FormulaFits defs specs new made
  instance_formed body made h i small =
      let after = replaced_formula (puts ((x, t) ∷ [])) body in
      let big : formula_size body ≤ 65536 = omega (arith, formula_size_kept (puts ((x, t) ∷ [])) body h.fits.sorted, within (formula_size after) (formula_height after) i.within) in
      subst (FormulaFits defs specs new) i.is
      (changed_formed defs specs (puts ((x, t) ∷ [])) ((x, s) ∷ scope) new body suits (omega (arith, within (size t) (height t) small, big)) (ready (λ v. formula_mentions v body) (λ v. bound_in v body)) h)
