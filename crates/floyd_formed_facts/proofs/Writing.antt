-- Formulas that a row writes of well-formed terms are well formed.
use Rattle.std.proofs.Common.{◌≡◌, Bool, true, false, cond, List, [], ◌∷◌, Some, None, Result, Ok, Err, refl, subst}
use Rattle.std.specs.Prelude.{if◌then◌else◌, is_some}
use Rattle.std.specs.List.{AllByRecursion, list_any}
use Rattle.std.proofs.lemmas.Bool.{or_parts}
use Rattle.floyd_text.specs.declared.refusal.No.{No}
use Rattle.floyd_tree_sorts.specs.declared.connectives.FormulaHead.{FormulaHead}
use Rattle.floyd_tree.specs.declared.stop.MakeStop.TheVariants.{IllSorted, TooLarge}
use Rattle.floyd_tree.specs.Formulas.{PlainFormula, Says, NoFormula, well_sorted}
use Rattle.floyd_tree.specs.MadeFormulas.{formula_fits}
use Rattle.floyd_tree.specs.Plain.{Plain, plains}
use Rattle.floyd_tree_values.specs.Rules.{Scope}
use Rattle.floyd_assert_trees.specs.declared.items.Defs.{Defs}
use Rattle.floyd_assert_trees.specs.declared.spec.SpecTable.{SpecTable}
use Rattle.floyd_goal_formulas.specs.Keeping as k
use Rattle.floyd_goal_forms.specs.Terms.{FormulaFits, FormulasFit, HeadFits}
use Rattle.floyd_goal_parts.specs.Writing.{all_written, is_faulty}
use Rattle.floyd_formed_places.proofs.Places.{AreFine, list_fine}

-- what can be made is well sorted
sorted_if : (b c : Bool) → is_some (cond b (cond c None (Some TooLarge)) (Some IllSorted)) ≡ false → b ≡ true
sorted_if true c e = refl
sorted_if false c e = absurd cc

sorted_made : (a : PlainFormula) → is_faulty a ≡ false → well_sorted a ≡ true
sorted_made a e = sorted_if (well_sorted a) (formula_fits a) e

none_faulty : (fs gs : List PlainFormula) → all_written fs ≡ Ok gs → (fs ≡ gs) × (list_any is_faulty fs ≡ false)
none_faulty fs gs e = by (list_any is_faulty fs) refl e
  where
    by : (b : Bool) → list_any is_faulty fs ≡ b → ◌≡◌ {A = Result (List PlainFormula) No} (if b then Err k.too_large else Ok fs) (Ok gs) → (fs ≡ gs) × (list_any is_faulty fs ≡ false)
    by true i f = absurd cc
    by false i f = (cc, i)

module _ (defs : Defs) (specs : SpecTable) (scope : Scope) where
  -- well formed, if it is well sorted
  abbrev pub FitsIfSorted : PlainFormula → Type 0
  FitsIfSorted a = well_sorted a ≡ true → FormulaFits defs specs scope a

  -- a formula that says something of terms
  pub says_formed : (head : FormulaHead) (ts : List Plain) → HeadFits defs specs head → AreFine defs scope ts → FitsIfSorted (Says head (plains ts) NoFormula)
  says_formed head ts i h w = let p = list_fine defs scope ts h in record { fits = record { sorted = w; allowed = (p.0, tt) }; known = (i, p.1, tt) }

  each_formed : (fs : List PlainFormula) → list_any is_faulty fs ≡ false → AllByRecursion FitsIfSorted fs → FormulasFit defs specs scope fs
  each_formed [] e h = tt
  each_formed (a ∷ fs) e h = let p = or_parts (is_faulty a) (list_any is_faulty fs) e in (h.0 (sorted_made a p.0), each_formed fs p.1 h.1)

  pub written_formed : (fs gs : List PlainFormula) → AllByRecursion FitsIfSorted fs → all_written fs ≡ Ok gs → FormulasFit defs specs scope gs
  written_formed fs gs h e = let p = none_faulty fs gs e in subst (FormulasFit defs specs scope) p.0 (each_formed fs p.1 h)
