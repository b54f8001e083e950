-- Formulas by their parts.
use Rattle.std.proofs.Common.{◌≡◌, ℕ, zero, suc, ◌+◌, ◌<◌, ◌≤◌, Bool, true, false, ◌&&◌, List, [], ◌∷◌, length, get_or, Option, Some, None, refl, ap, sym, ◌∙◌, arith}
use Rattle.std.specs.Prelude.{if◌then◌else◌}
use Rattle.std.specs.Option.{option_or}
use Rattle.floyd_tree.specs.declared.formulas.FormulaNode.{FormulaNode}
use Rattle.floyd_tree_sorts.specs.declared.sorts.Sort.{Sort}
use Rattle.floyd_tree.specs.declared.stop.MakeStop.TheVariants.{IllSorted, TooLarge}
use Rattle.floyd_tree_sorts.specs.declared.connectives.FormulaHead.{FormulaHead}
use Rattle.floyd_tree.specs.FormulaCode.{formulas-listed, listed-formulas}
use Rattle.floyd_tree.specs.FormulaStored.{IsFormulaStored, plain_formula}
use Rattle.floyd_tree.specs.Formulas.{PlainFormula, PlainFormulas, Says, NoFormula, MoreFormulas, all_well_sorted, formulas, formulas_of, formula_height, formula_heights, formula_size, formula_sizes, listed_formulas, takes_all, well_sorted}
use Rattle.floyd_tree.specs.MadeFormulas.{formula_fault, formula_faults, formula_fault_at, formula_fits}
use Rattle.floyd_tree.specs.Plain.{Plains}
use Rattle.floyd_tree.specs.WellSorted.{sorts_of}
use Rattle.floyd_tree.proofs.Faults.{sounds, within}

pub well_sorted_is : (head : FormulaHead) (terms : Plains) (kids : List PlainFormula) → well_sorted (Says head terms (formulas kids)) ≡ (takes_all head (sorts_of terms) (length kids) && all_well_sorted (formulas kids))
well_sorted_is head terms kids = ap (λ fs. takes_all head (sorts_of terms) (length fs) && all_well_sorted (formulas kids)) (listed-formulas kids)

-- kids are lower than their formula
pub formula_height_at : (fs : List PlainFormula) (i : ℕ) (d : PlainFormula) → i < length fs → formula_height (get_or fs i d) ≤ formula_heights (formulas fs)
formula_height_at [] i d h = absurd (omega arith)
formula_height_at (f ∷ fs) zero d h = omega arith
formula_height_at (f ∷ fs) (suc i) d h = omega (arith, formula_height_at fs i d (omega arith))

pub formulas_below : (f : PlainFormula) → formula_heights (formulas (formulas_of f)) + 1 ≤ formula_height f
formulas_below (Says head terms kids) =
    let e : formula_heights (formulas (listed_formulas kids)) ≡ formula_heights kids = ap formula_heights (formulas-listed kids) in
    omega arith

-- a formula that is well sorted and within the limits has no fault
both_true : (a b : Bool) → (a && b) ≡ true → (a ≡ true) × (b ≡ true)
both_true true true h = (refl, refl)
both_true true false h = cc
both_true false b h = cc

sorts_there : (head : FormulaHead) (sorts : Option (List Sort)) (n : ℕ) → takes_all head sorts n ≡ true → (ss : List Sort) × (sorts ≡ Some ss)
sorts_there head (Some ss) n h = (ss, refl)
sorts_there head None n h = absurd cc

no_formula_fault_at : (f : PlainFormula) → well_sorted f ≡ true → formula_size f ≤ 65536 → formula_height f ≤ 256 → formula_fault_at f ≡ None
no_formula_fault_at f h small low =
    ap (λ b. if b then (if formula_fits f then None else Some TooLarge) else Some IllSorted) h
    ∙ ap (λ b. if b then None else Some TooLarge) (within (formula_size f) (formula_height f) small low)

mutual
  pub formula_sound : (f : PlainFormula) → well_sorted f ≡ true → formula_size f ≤ 65536 → formula_height f ≤ 256 → formula_fault f ≡ None
  formula_sound (Says head terms kids) h small low =
      let both = both_true (takes_all head (sorts_of terms) (length (listed_formulas kids))) (all_well_sorted kids) h in
      let ss = sorts_there head (sorts_of terms) (length (listed_formulas kids)) both.0 in
      ap (λ o. option_or o (option_or (formula_faults kids) (formula_fault_at (Says head terms kids)))) (sounds terms ss.0 ss.1 (omega arith) (omega arith))
      ∙ ap (λ o. option_or o (formula_fault_at (Says head terms kids))) (formulas_sound kids both.1 (omega arith) (omega arith))
      ∙ no_formula_fault_at (Says head terms kids) h small low

  pub formulas_sound : (fs : PlainFormulas) → all_well_sorted fs ≡ true → formula_sizes fs ≤ 65536 → formula_heights fs ≤ 256 → formula_faults fs ≡ None
  formulas_sound NoFormula h small low = refl
  formulas_sound (MoreFormulas f fs) h small low =
      let both = both_true (well_sorted f) (all_well_sorted fs) h in
      ap (λ o. option_or o (formula_faults fs)) (formula_sound f both.0 (omega arith) (omega arith))
      ∙ formulas_sound fs both.1 (omega arith) (omega arith)

pub stored_formula_sound : (a : FormulaNode) (f : PlainFormula) → IsFormulaStored a → plain_formula a ≡ f → formula_fault f ≡ None
stored_formula_sound a f h e =
    ap formula_fault (sym e) ∙ formula_sound (plain_formula a) h.sorted (omega arith) (omega arith)
