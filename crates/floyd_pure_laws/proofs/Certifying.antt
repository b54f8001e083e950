-- A goal that is closed by a certificate is true.
use Rattle.std.proofs.Common.{◌≡◌, ℕ, Bool, true, false, List, [], ◌∷◌, Option, Some, None, Result, Ok, Err, refl, sym, ap, subst, ◌∙◌, true≢false}
use Rattle.std.specs.Prelude.{◌&&◌, not, length, nat_eq}
use Rattle.floyd_text.specs.declared.refusal.No.{No}
use Rattle.floyd_tree_sorts.specs.declared.connectives.FormulaHead.TheVariants as f
use Rattle.floyd_tree_sorts.specs.declared.sorts.Sort.{Sort, Z}
use Rattle.floyd_tree_sorts.specs.Rows.{takes}
use Rattle.floyd_tree_sorts.specs.Sorts.{is_z}
use Rattle.floyd_tree_sorts.proofs.SortLemmas.{both_true}
use Rattle.floyd_tree.specs.Formulas.{PlainFormula, PlainFormulas, Says, listed_formulas}
use Rattle.floyd_tree.specs.Plain.{Plain, Plains, Done, More, listed}
use Rattle.floyd_tree.specs.WellSorted.{sort_of, sorts_of}
use Rattle.floyd_tree_values.specs.Means.{Defs}
use Rattle.floyd_tree_values.specs.Rules.{Scope}
use Rattle.floyd_arith.specs.Certificates.{certified}
use Rattle.floyd_arith.specs.Laws.{IsTarget}
use Rattle.floyd_arith.proofs.Truths.{hold}
use Rattle.floyd_goal.specs.Goals.{wrong_goal}
use Rattle.floyd_goal_formulas.specs.Fits.{Fits}
use Rattle.floyd_goal_formulas.specs.Said.{Saying, Equation, Implication, Either, Both, ForAll, ThereIs, Pointer, NotUndefined, OfType, of_pair, of_one, pair_of, one_of, last_of, said}
use Rattle.floyd_goal_formulas.proofs.Values.{first_some, is_z_is, sorted}
use Rattle.floyd_goal_trees.specs.declared.goal.Goal.{Goal}
use Rattle.floyd_goal_truth.specs.Scopes.{scope_of}
use Rattle.floyd_pure_formulas.specs.Keeps.{KeepsTruth}
use Rattle.floyd_pure_laws.specs.Lia.{LiaRow, closed, may_be_certified}
use Rattle.floyd_pure_formulas.specs.Rows.{Unless}

not_pair : {T : Type 0} (says : T → T → Saying) (o : Option (T × T)) → ((a b : T) → may_be_certified (says a b) ≡ false) → may_be_certified (of_pair says o) ≡ false
not_pair says None h = refl
not_pair says (Some p) h = h p.0 p.1

not_one : {T : Type 0} (says : T → Saying) (o : Option T) → ((a : T) → may_be_certified (says a) ≡ false) → may_be_certified (of_one says o) ≡ false
not_one says None h = refl
not_one says (Some a) h = h a

-- False takes no terms
none_taken : (s : Sort) (sorts : List Sort) (n : ℕ) → takes f.False (s ∷ sorts) n ≡ true → ⊥
none_taken s [] n h = true≢false (sym (both_true (nat_eq n 0) false h).1)
none_taken s (r ∷ []) n h = true≢false (sym (both_true (nat_eq n 0) false h).1)
none_taken s (r ∷ q ∷ more) n h = true≢false (sym h)

module _ (defs : Defs) (scope : Scope) where
  -- the terms of an inequality are numbers
  both_numbers : (a b : Plain) (kids : PlainFormulas) → Fits defs scope (Says f.AtMost (More a (More b Done)) kids) → (sort_of a ≡ Some Z) × (sort_of b ≡ Some Z)
  both_numbers a b kids fit =
      let s = sorted f.AtMost (More a (More b Done)) kids fit.sorted in
      let p = first_some (sort_of a) (sorts_of (More b Done)) s.sorts s.are in
      let q = first_some (sort_of b) (sorts_of Done) p.1 p.3 in
      let none' : q.1 ≡ [] = cc (q.3) in
      let are : s.sorts ≡ p.0 ∷ q.0 ∷ [] = p.4 ∙ ap (λ x. p.0 ∷ x) (q.4 ∙ ap (λ x. q.0 ∷ x) none') in
      let h : takes f.AtMost (p.0 ∷ q.0 ∷ []) (length (listed_formulas kids)) ≡ true = subst (λ x. takes f.AtMost x (length (listed_formulas kids)) ≡ true) are s.taken in
      let zs = both_true (is_z p.0) (is_z q.0) (both_true (nat_eq (length (listed_formulas kids)) 0) (is_z p.0 && is_z q.0) h).1 in
      (p.2 ∙ ap (λ x. Some x) (is_z_is p.0 zs.0), q.2 ∙ ap (λ x. Some x) (is_z_is q.0 zs.1))

  no_terms : (t : Plain) (ts : Plains) (kids : PlainFormulas) → Fits defs scope (Says f.False (More t ts) kids) → ⊥
  no_terms t ts kids fit =
      let s = sorted f.False (More t ts) kids fit.sorted in
      let p = first_some (sort_of t) (sorts_of ts) s.sorts s.are in
      none_taken p.0 p.1 (length (listed_formulas kids)) (subst (λ x. takes f.False x (length (listed_formulas kids)) ≡ true) p.4 s.taken)

  -- a well-formed inequality, or False
  is_target : (a : PlainFormula) → Fits defs scope a → may_be_certified (said a) ≡ true → IsTarget defs scope a
  is_target (Says f.AtMost (More a (More b Done)) kids) fit h =
      let s = both_numbers a b kids fit in
      (record { sorted = s.0; allowed = fit.allowed.0.0 }, record { sorted = s.1; allowed = fit.allowed.0.1.0 })
  is_target (Says f.AtMost Done kids) fit h = absurd cc
  is_target (Says f.AtMost (More a Done) kids) fit h = absurd cc
  is_target (Says f.AtMost (More a (More b (More c ts))) kids) fit h = absurd cc
  is_target (Says f.False Done kids) fit h = tt
  is_target (Says f.False (More t ts) kids) fit h = no_terms t ts kids fit
  is_target (Says f.True ts kids) fit h = absurd cc
  is_target (Says f.Implies ts kids) fit h = absurd (true≢false (sym h ∙ not_pair Implication (pair_of (listed_formulas kids)) (λ a b. refl)))
  is_target (Says f.Or ts kids) fit h = absurd (true≢false (sym h ∙ not_pair Either (pair_of (listed_formulas kids)) (λ a b. refl)))
  is_target (Says f.And ts kids) fit h = absurd (true≢false (sym h ∙ not_pair Both (pair_of (listed_formulas kids)) (λ a b. refl)))
  is_target (Says (f.Forall x s) ts kids) fit h = absurd (true≢false (sym h ∙ not_one (ForAll x s) (one_of (listed_formulas kids)) (λ a. refl)))
  is_target (Says (f.Exists x s) ts kids) fit h = absurd (true≢false (sym h ∙ not_one (ThereIs x s) (one_of (listed_formulas kids)) (λ a. refl)))
  is_target (Says f.Equal ts kids) fit h = absurd (true≢false (sym h ∙ not_pair Equation (pair_of (listed ts)) (λ a b. refl)))
  is_target (Says f.IsPtr ts kids) fit h = absurd (true≢false (sym h ∙ not_one Pointer (one_of (listed ts)) (λ a. refl)))
  is_target (Says f.Defined ts kids) fit h = absurd (true≢false (sym h ∙ not_one NotUndefined (one_of (listed ts)) (λ a. refl)))
  is_target (Says (f.Hasty shape) ts kids) fit h = absurd (true≢false (sym h ∙ not_one (OfType shape) (last_of (listed ts)) (λ a. refl)))
  is_target (Says (f.Compatible shape path) ts kids) fit h = absurd cc
  is_target (Says (f.FuncPtr name) ts kids) fit h = absurd cc

certified_by : (b : Bool) (answer : Result (Unit {0}) No) (goals : List Goal) → Unless (not b) wrong_goal (λ given. given ≡ closed answer) (Ok goals) → (b ≡ true) × (answer ≡ Ok tt)
certified_by true (Ok done) goals e = (refl, refl)
certified_by true (Err refusal) goals e = absurd cc
certified_by false answer goals e = absurd cc

pub lia_true : KeepsTruth LiaRow
lia_true defs specs pure args goals keeps hypotheses target fit row env suits hyps proved =
    let by = certified_by (may_be_certified (said pure.target)) (certified pure.context.hypotheses pure.target args.weights) goals row in
    hold defs specs (scope_of pure.context) env pure.context.hypotheses pure.target args.weights keeps suits (is_target defs (scope_of pure.context) pure.target target by.0) by.1 hyps
