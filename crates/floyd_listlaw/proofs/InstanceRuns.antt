-- What is run is the instance of the law, and holds.
use Rattle.std.proofs.Common.{◌≡◌, ℕ, ◌<◌, ap, ap₂, sym, subst, ◌∙◌, List, [], ◌∷◌, ◌++◌, length, take, drop, Option, Some, None, Result, Ok, Err, IfOk, arith}
use Rattle.std.proofs.lemmas.List.{length-append}
use Rattle.std.proofs.Math.Seq.{drop-append_seam, take-append_seam}
use Rattle.floyd_text.specs.declared.refusal.RuleStop.{RuleStop}
use Rattle.floyd_text.specs.Gives.{RuleGives, RuleStops}
use Rattle.floyd_tree_sorts.specs.declared.sorts.Sort.{Sort}
use Rattle.floyd_tree.specs.declared.stop.MakeStop.{MakeStop}
use Rattle.floyd_tree.specs.declared.stop.MakeStop.TheVariants.{IllSorted, TooLarge, Memory}
use Rattle.floyd_tree.specs.Formulas.{PlainFormula, formulas}
use Rattle.floyd_tree.specs.Made.{unless}
use Rattle.floyd_tree.specs.MadeFormulas.{formula_faults}
use Rattle.floyd_tree.specs.Plain.{Plain}
use Rattle.floyd_listlaw.specs.declared.instance.Law.{Law}
use Rattle.floyd_listlaw.specs.declared.list_law.ListLaw.{ListLaw}
use Rattle.floyd_listlaw.specs.declared.postfix.Postfix.{Postfix}
use Rattle.floyd_listlaw.specs.InstanceClauses.{refusal}
use Rattle.floyd_listlaw.specs.Instances.{by_law, by_row, formulas_in, in_sort, instance, says, within}
use Rattle.floyd_listlaw.specs.Laws.{HoldsFor}
use Rattle.floyd_listlaw.specs.Names.{law_named}
use Rattle.floyd_listlaw.specs.PostfixClauses.{IsStop, formulas_run, row_items}
use Rattle.floyd_listlaw.specs.Table.{Row, row}
use Rattle.floyd_listlaw.proofs.Runs.{row_run}
use Rattle.floyd_listlaw.proofs.Truths.{holds}

-- two lists with one item more at the end
same_front : (xs ys : List PlainFormula) (x y : PlainFormula) → xs ++ x ∷ [] ≡ ys ++ y ∷ [] → (xs ≡ ys) × (x ≡ y)
same_front xs ys x y e =
    let n : length xs ≡ length ys = omega (arith, sym (length-append xs (x ∷ [])) ∙ ap length e ∙ length-append ys (y ∷ [])) in
    let last : x ∷ [] ≡ y ∷ [] = sym (drop-append_seam xs (x ∷ [])) ∙ ap₂ drop n e ∙ drop-append_seam ys (y ∷ []) in
    (sym (take-append_seam xs (x ∷ [])) ∙ ap₂ take n e ∙ take-append_seam ys (y ∷ []), cc)

same_law : (a b : Law) → formulas_in a ≡ formulas_in b → a ≡ b
same_law a b e =
    let p = same_front a.premises b.premises a.conclusion b.conclusion e in
    ap₂ (λ premises conclusion. record { premises = premises; conclusion = conclusion }) p.0 p.1

unless_ok : (o : Option MakeStop) (x y : List PlainFormula) → unless o x ≡ Ok y → (o ≡ None) × (x ≡ y)
unless_ok None x y e = (cc, cc)
unless_ok (Some stop) x y e = absurd cc

unless_err : (o : Option MakeStop) (x : List PlainFormula) (stop : MakeStop) → unless o x ≡ Err stop → o ≡ Some stop
unless_err None x stop e = absurd cc
unless_err (Some t) x stop e = cc

module _ (r : Row) (s : Sort) (given : List Plain) where
  abbrev whole : Law
  whole = says r s given

  abbrev fault : Option MakeStop
  fault = formula_faults (formulas (formulas_in whole))

  run_is : (items : List Postfix) (should : Result (List PlainFormula) MakeStop) → items ≡ row_items r → formulas_run s given items ≡ should → unless fault (formulas_in whole) ≡ should
  run_is items should e f = sym (row_run s given r) ∙ ap (formulas_run s given) (sym e) ∙ f

  pub some_formula : (items : List Postfix) (all : List PlainFormula) → items ≡ row_items r → formulas_run s given items ≡ Ok all → 0 < length all
  some_formula items all e f =
      let p = unless_ok fault (formulas_in whole) all (run_is items (Ok all) e f) in
      omega (arith, sym (ap length p.1) ∙ length-append whole.premises (whole.conclusion ∷ []))

  pub made_law : (items : List Postfix) (all : List PlainFormula) (law : Law) → items ≡ row_items r → formulas_run s given items ≡ Ok all → formulas_in law ≡ all → in_sort r given (Some s) ≡ Ok law
  made_law items all law e f g =
      let p = unless_ok fault (formulas_in whole) all (run_is items (Ok all) e f) in
      ap (λ o. within o whole) p.0 ∙ ap Ok (sym (same_law law whole (g ∙ sym p.1)))

  pub stopped : (items : List Postfix) (stop : MakeStop) → items ≡ row_items r → IsStop stop (formulas_run s given items) → RuleStops (refusal stop) (in_sort r given (Some s))
  stopped items IllSorted e h = ap (λ o. within o whole) (unless_err fault (formulas_in whole) IllSorted (run_is items (Err IllSorted) e h))
  stopped items TooLarge e h = ap (λ o. within o whole) (unless_err fault (formulas_in whole) TooLarge (run_is items (Err TooLarge) e h))
  stopped items Memory e h = tt

instance_holds : (name : List ℕ) (terms : List Plain) (result : Result Law RuleStop) → RuleGives (λ law. law) result (instance name terms) → IfOk result (HoldsFor terms)
instance_holds name terms (Ok law) e = holds name terms law e
instance_holds name terms (Err stop) e = tt

pub law_holds : (name : List ℕ) (terms ts : List Plain) (law : ListLaw) (result : Result Law RuleStop) → law_named name ≡ Some law → ts ≡ terms → RuleGives (λ own. own) result (by_row (row law) ts) → IfOk result (HoldsFor terms)
law_holds name terms ts law result e f g =
    instance_holds name terms result (subst (λ o. RuleGives (λ own. own) result (by_law name terms o)) (sym e) (subst (λ us. RuleGives (λ own. own) result (by_row (row law) us)) f g))
