-- Answers of the row of switch.
use Rattle.std.proofs.Common.{◌≡◌, ℕ, zero, suc, ◌+◌, ◌<◌, ◌≤◌, List, [], ◌∷◌, ◌++◌, drop, length, get_or, Option, Some, None, Result, Ok, Err, refl, sym, ap, ◌∙◌, subst, arith}
use Rattle.std.proofs.Math.Seq.{drop-append_seam}
use Rattle.std.proofs.lemmas.List.{drop_more}
use Rattle.floyd_text.specs.declared.refusal.No.{No}
use Rattle.floyd_text.specs.declared.refusal.RuleStop.{RuleStop}
use Rattle.floyd_text.specs.Gives.{RuleStops}
use Rattle.floyd_ctypes.specs.Structs.{Structs}
use Rattle.floyd_clight.specs.declared.syntax.Case.{Case}
use Rattle.floyd_clight.specs.declared.syntax.Expr.{Expr}
use Rattle.floyd_clight.specs.declared.syntax.Stmt.{Stmt, Switch, items_hidden-the_row-Case-2}
use Rattle.floyd_clight.specs.Flat.{flat}
use Rattle.floyd_tree.specs.Formulas.{PlainFormula}
use Rattle.floyd_assert_trees.specs.declared.assertion.Assertion.{Assertion}
use Rattle.floyd_fieldpath.specs.Written.{on_ok}
use Rattle.floyd_symexpr_rows.specs.declared.needs.Number.{Number}
use Rattle.floyd_symexpr_rows.specs.Formulas.{saying}
use Rattle.floyd_symexpr_rows.proofs.SayingLemmas.{said_stops, saying_append, stops}
use Rattle.floyd_goal_trees.specs.declared.context.Context.{Context}
use Rattle.floyd_goal_trees.specs.declared.exits.Exits.{Exits}
use Rattle.floyd_goal_trees.specs.declared.goal.Goal.{Goal}
use Rattle.floyd_goal_trees.specs.declared.goal.Run.{Run}
use Rattle.floyd_goal.specs.Answers.{IsAnswer}
use Rattle.floyd_goal_parts.specs.Rows.{Answer}
use Rattle.floyd_control.specs.ForwardSwitch.{OfStatement, Switches, SwitchesWith, bodies_of, case_formulas, case_goal, case_goals, labels_of, no_labels, under_more}
use Rattle.floyd_control.specs.Parts.{Named}

-- ---- labels

labels_split : (a : Number) (l : Option ℕ) (ls : List (Option ℕ)) → no_labels a (l ∷ ls) ≡ no_labels a (l ∷ []) ++ no_labels a ls
labels_split a None ls = refl
labels_split a (Some bits) ls = refl

-- the next label
module _ (a : Number) (all : List PlainFormula) (rest more : List Case) (one : Case) (total : Result (List PlainFormula) No) (is : rest ≡ one ∷ more) (done : saying all (no_labels a (labels_of rest)) ≡ total) where
  label_here : saying all (no_labels a (one.label ∷ []) ++ no_labels a (labels_of more)) ≡ total
  label_here = ap (saying all) (sym (labels_split a one.label (labels_of more))) ∙ ap (λ cs. saying all (no_labels a (labels_of cs))) (sym is) ∙ done

  pub label_stops : (stop : RuleStop) → RuleStops stop (saying all (no_labels a (one.label ∷ []))) → RuleStops stop total
  label_stops stop e = subst (RuleStops stop) label_here (said_stops stop all (no_labels a (one.label ∷ [])) (no_labels a (labels_of more)) e)

  pub label_next : (next : List PlainFormula) → saying all (no_labels a (one.label ∷ [])) ≡ Ok next → saying next (no_labels a (labels_of more)) ≡ total
  label_next next e =
      sym (ap (λ r. on_ok r (λ fs. saying fs (no_labels a (labels_of more)))) e)
      ∙ sym (saying_append all (no_labels a (one.label ∷ [])) (no_labels a (labels_of more))) ∙ label_here

-- ---- the goals of the cases

drop_suc : {A : Type 0} (i : ℕ) (xs : List A) → drop 1 (drop i xs) ≡ drop (suc i) xs
drop_suc zero xs = refl
drop_suc (suc i) [] = refl
drop_suc (suc i) (x ∷ xs) = drop_suc i xs

pub drop_one : {A : Type 0} (i : ℕ) (xs : List A) → drop 1 (drop i xs) ≡ drop (i + 1) xs
drop_one i xs = let e : suc i ≡ i + 1 = omega arith in drop_suc i xs ∙ ap (λ (j : ℕ). drop j xs) e

append_three : {A : Type 0} (xs ys zs : List A) → (xs ++ ys) ++ zs ≡ xs ++ (ys ++ zs)
append_three [] ys zs = refl
append_three (x ∷ xs) ys zs = ap (λ ws. x ∷ ws) (append_three xs ys zs)

append_nothing : {A : Type 0} (xs : List A) → xs ++ [] ≡ xs
append_nothing [] = refl
append_nothing (x ∷ xs) = ap (λ ys. x ∷ ys) (append_nothing xs)

drop_end : {A : Type 0} (i : ℕ) (xs : List A) → length xs ≤ i → drop i xs ≡ []
drop_end zero [] h = refl
drop_end (suc i) [] h = refl
drop_end zero (x ∷ xs) h = absurd (omega arith)
drop_end (suc i) (x ∷ xs) h = drop_end i xs (omega arith)

behind_one : (r : Answer) (goals : List Goal) (goal : Goal) → on_ok r (λ gs. Ok ((goals ++ goal ∷ []) ++ gs)) ≡ on_ok (on_ok r (λ gs. Ok (goal ∷ gs))) (λ gs. Ok (goals ++ gs))
behind_one (Ok gs) goals goal = ap Ok (append_three goals (goal ∷ []) gs)
behind_one (Err why) goals goal = refl

pub body_left : (left more : List Case) (one : Case) (rest : List Stmt) → left ≡ one ∷ more → rest ≡ bodies_of left → drop (length (flat one.body)) rest ≡ bodies_of more
body_left left more one rest is e = ap (drop (length (flat one.body))) (e ∙ ap bodies_of is) ∙ drop-append_seam (flat one.body) (bodies_of more)

-- the bodies of the cases, one by one
pub bodies_next : (all next : List Stmt) (cases : List Case) (i : ℕ) (one : Case) (total : List Stmt) → i < length cases → one ≡ get_or cases i one → all ++ bodies_of (drop i cases) ≡ total → next ≡ all ++ flat one.body → next ++ bodies_of (drop (i + 1) cases) ≡ total
bodies_next all next cases i one total low is done e =
    ap (λ (ss : List Stmt). ss ++ bodies_of (drop (i + 1) cases)) e
    ∙ append_three all (flat one.body) (bodies_of (drop (i + 1) cases))
    ∙ ap (λ (cs : List Case). all ++ bodies_of cs) (sym (drop_more cases i one low ∙ ap (λ (c : Case). c ∷ drop (i + 1) cases) (sym is)))
    ∙ done

pub bodies_end : (all : List Stmt) (cases : List Case) (i : ℕ) (total : List Stmt) → length cases ≤ i → all ++ bodies_of (drop i cases) ≡ total → all ≡ total
bodies_end all cases i total high done = sym (append_nothing all) ∙ ap (λ (cs : List Case). all ++ bodies_of cs) (sym (drop_end i cases high)) ∙ done

-- the next case
module _ (run : Run) (a : Number) (all : List (Option ℕ)) (context : Context) (exits : Exits) (goals : List Goal) (left more : List Case) (one : Case) (rest : List Stmt) (total : Answer) (is : left ≡ one ∷ more) (behind : rest ≡ bodies_of left) (done : on_ok (case_goals run a all context exits left) (λ gs. Ok (goals ++ gs)) ≡ total) where
  abbrev here : Result Goal No
  here = under_more context (case_formulas a all one.label) (case_goal run exits rest)

  abbrev then_more : Goal → Answer
  then_more goal = on_ok (case_goals run a all context exits more) (λ gs. Ok (goal ∷ gs))

  case_here : on_ok (on_ok here then_more) (λ gs. Ok (goals ++ gs)) ≡ total
  case_here =
      ap (λ ss. on_ok (on_ok (under_more context (case_formulas a all one.label) (case_goal run exits ss)) then_more) (λ gs. Ok (goals ++ gs))) (behind ∙ ap bodies_of is)
      ∙ ap (λ cs. on_ok (case_goals run a all context exits cs) (λ gs. Ok (goals ++ gs))) (sym is) ∙ done

  pub case_stops : (stop : RuleStop) → RuleStops stop here → RuleStops stop total
  case_stops stop e = subst (RuleStops stop) case_here (stops stop (on_ok here then_more) (λ gs. Ok (goals ++ gs)) (stops stop here then_more e))

  pub case_next : (goal : Goal) (next : List Goal) → here ≡ Ok goal → next ≡ goals ++ goal ∷ [] → on_ok (case_goals run a all context exits more) (λ gs. Ok (next ++ gs)) ≡ total
  case_next goal next e put =
      ap (λ (ns : List Goal). on_ok (case_goals run a all context exits more) (λ gs. Ok (ns ++ gs))) put
      ∙ behind_one (case_goals run a all context exits more) goals goal
      ∙ sym (ap (λ r. on_ok (on_ok r then_more) (λ gs. Ok (goals ++ gs))) e) ∙ case_here

-- all of them
pub cases_end : (run : Run) (a : Number) (all : List (Option ℕ)) (context : Context) (exits : Exits) (goals : List Goal) (left : List Case) (total : Answer) → length left ≡ 0 → on_ok (case_goals run a all context exits left) (λ gs. Ok (goals ++ gs)) ≡ total → total ≡ Ok goals
cases_end run a all context exits goals [] total none done = sym done ∙ ap Ok (append_nothing goals)
cases_end run a all context exits goals (c ∷ left) total none done = absurd (omega arith)

-- ---- the statement

-- one assertion is given
pub one_switch : (structs : Structs) (run : Run) (given : List Assertion) (a : Assertion) (e : Expr) (cases : List Case) (r : Result (List Goal) RuleStop) → 1 ≤ length given → length given < 2 → a ≡ get_or given 0 a → IsAnswer (Named run (Switches structs run a e cases)) r → IsAnswer (SwitchesWith structs run given e cases) r
one_switch structs run [] a e cases r low high is h = absurd (omega arith)
one_switch structs run (b ∷ []) a e cases r low high is h = subst (λ (d : Assertion). IsAnswer (Named run (Switches structs run d e cases)) r) is h
one_switch structs run (b ∷ c ∷ given) a e cases r low high is h = absurd (omega arith)

of_switch : (structs : Structs) (run : Run) (given : List Assertion) (e : Expr) (cases : List Case) (r : Result (List Goal) RuleStop) → IsAnswer (SwitchesWith structs run given e cases) r → IsAnswer (OfStatement structs run given (Switch e cases)) r
of_switch structs run given e cases r h = subst (λ (cs : List Case). IsAnswer (SwitchesWith structs run given e cs) r) (sym (items_hidden-the_row-Case-2 cases)) h

pub switch_answers : (structs : Structs) (run : Run) (given : List Assertion) (d : Stmt) (e : Expr) (cases seen : List Case) (r : Result (List Goal) RuleStop) → d ≡ Switch e cases → seen ≡ cases → IsAnswer (SwitchesWith structs run given e seen) r → IsAnswer (OfStatement structs run given d) r
switch_answers structs run given d e cases seen r is f h =
    subst (λ (z : Stmt). IsAnswer (OfStatement structs run given z) r) (sym is) (of_switch structs run given e cases r (subst (λ (cs : List Case). IsAnswer (SwitchesWith structs run given e cs) r) f h))
