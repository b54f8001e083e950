-- Where a switch goes on, and the goal of that case.
use Rattle.std.proofs.Common.{◌≡◌, ℕ, Bool, true, false, List, [], ◌∷◌, ◌++◌, Option, Some, None, Ok, refl, sym, ap, subst, ◌∙◌, if◌then◌else◌}
use Rattle.std.specs.List.{AllByRecursion}
use denote.Hole.Carrier.{shown}
use mathlib.Core.Former.{arity, this}
use Rattle.sqlite_items.specs.formers.items.Items.{the_former}
use Rattle.floyd_clight.specs.declared.syntax.Case.{Case}
use Rattle.floyd_clight.specs.declared.syntax.Stmt.{Stmt, Seq', end_of-Stmt, more_of-Stmt, Row_of-Case, end_of-Case, more_of-Case, items-the_row-Case}
use Rattle.floyd_clight.specs.declared.syntax.Stmt.TheBlock.{shown-the_row-Stmt-1}
use Rattle.floyd_clight.specs.Flat.{flat, flats}
use Rattle.floyd_clight_machine.specs.Switching.{bodies, from_case, has_label, is_default}
use Rattle.floyd_clight_typing.specs.Statements.{labels}
use Rattle.floyd_tree.specs.Formulas.{PlainFormula}
use Rattle.floyd_fieldpath.specs.Written.{on_ok}
use Rattle.floyd_symexpr_rows.specs.declared.needs.Number.{Number}
use Rattle.floyd_symexpr_laws.proofs.TermMeanings.{ok_parts}
use Rattle.floyd_goal_trees.specs.declared.context.Context.{Context}
use Rattle.floyd_goal_trees.specs.declared.exits.Exits.{Exits}
use Rattle.floyd_goal_trees.specs.declared.goal.Goal.{Goal}
use Rattle.floyd_goal_trees.specs.declared.goal.Run.{Run}
use Rattle.floyd_forward_soundness.proofs.Setting.{same_goals}
use Rattle.floyd_control.specs.ForwardSwitch.{bodies_of, case_formulas, case_goal, case_goals, has_default, labels_of, under_more}

-- ---- rows of cases as lists

pub items_more : {n : _} (label : Option ℕ) (p : Unit {0}) (s : Stmt) (rest : Row_of-Case n) → items-the_row-Case _ (more_of-Case label p (more_of-Stmt s end_of-Stmt) rest) ≡ record { label = label; body = s } ∷ items-the_row-Case n rest
unfolding shown-the_row-Stmt-1 shown
items_more label p s rest = refl

pub labels_are : {n : _} (row : Row_of-Case n) → labels_of (items-the_row-Case n row) ≡ labels row
labels_are end_of-Case = refl
labels_are (more_of-Case label p (more_of-Stmt s end_of-Stmt) rest) = ap labels_of (items_more label p s rest) ∙ ap (λ (ls : List (Option ℕ)). label ∷ ls) (labels_are rest)

pub bodies_are : {n : _} (row : Row_of-Case n) → bodies_of (items-the_row-Case n row) ≡ flats (bodies row)
bodies_are end_of-Case = refl
bodies_are (more_of-Case label p (more_of-Stmt s end_of-Stmt) rest) = ap bodies_of (items_more label p s rest) ∙ ap (λ (ss : List Stmt). flat s ++ ss) (bodies_are rest)

-- ---- where a switch goes on

some_stmt : (s t : Stmt) → ◌≡◌ {A = Option Stmt} (Some s) (Some t) → s ≡ t
some_stmt s t e = cc

pub none_found : (n : ℕ) (shape : List (Unit {0})) (cases : Row_of-Case (arity (the_former (this {0})) shape)) → from_case (has_label n) shape cases ≡ None → AllByRecursion (λ l. has_label n l ≡ false) (labels cases)
none_found n [] end_of-Case e = tt
none_found n (u ∷ shape) (more_of-Case label p (more_of-Stmt s end_of-Stmt) rest) e = by (λ f. none_found n shape rest f) (has_label n label) refl e
  where
    by : (from_case (has_label n) shape rest ≡ None → AllByRecursion (λ l. has_label n l ≡ false) (labels rest)) → (b : Bool) → has_label n label ≡ b → (if b then Some (Seq' (u ∷ shape) (more_of-Stmt s (bodies rest))) else from_case (has_label n) shape rest) ≡ None →
        (has_label n label ≡ false) × AllByRecursion (λ l. has_label n l ≡ false) (labels rest)
    by next true f g = absurd cc
    by next false f g = (f, next g)

pub no_default : (shape : List (Unit {0})) (cases : Row_of-Case (arity (the_former (this {0})) shape)) → from_case is_default shape cases ≡ None → has_default (labels cases) ≡ false
no_default [] end_of-Case e = refl
no_default (u ∷ shape) (more_of-Case None p (more_of-Stmt s end_of-Stmt) rest) e = absurd cc
no_default (u ∷ shape) (more_of-Case (Some l) p (more_of-Stmt s end_of-Stmt) rest) e = no_default shape rest e

-- ---- the goal of a case

-- what is so of the statements of each case whose formulas are true and whose goal holds is so of those where the switch goes on
module _ (run : Run) (a : Number) (all : List (Option ℕ)) (context : Context) (exits : Exits) (H : Goal → Type 0) (Q : List PlainFormula → Type 0) (P : List Stmt → Type 0)
    (goal_on : (fs : List PlainFormula) (ss : List Stmt) (goal : Goal) → under_more context fs (case_goal run exits ss) ≡ Ok goal → H goal → Q fs → P ss) where
  pub case_on : (test : Option ℕ → Bool) → ((label : Option ℕ) → test label ≡ true → Q (case_formulas a all label)) → (shape : List (Unit {0})) (cases : Row_of-Case (arity (the_former (this {0})) shape)) (gs : List Goal) →
      case_goals run a all context exits (items-the_row-Case _ cases) ≡ Ok gs → AllByRecursion H gs → (t : Stmt) → from_case test shape cases ≡ Some t → P (flat t)
  case_on test holds [] end_of-Case gs made hold t found = absurd cc
  case_on test holds (u ∷ shape) (more_of-Case label p (more_of-Stmt s end_of-Stmt) rest) gs made hold t found =
      let c : Case = record { label = label; body = s } in
      let others = items-the_row-Case _ rest in
      let here : case_goals run a all context exits (c ∷ others) ≡ Ok gs = ap (case_goals run a all context exits) (sym (items_more label p s rest)) ∙ made in
      let g = ok_parts (under_more context (case_formulas a all label) (case_goal run exits (bodies_of (c ∷ others)))) (λ goal. on_ok (case_goals run a all context exits others) (λ goals. Ok (goal ∷ goals))) gs here in
      let r = ok_parts (case_goals run a all context exits others) (λ goals. Ok (g.0 ∷ goals)) gs g.2 in
      let held = subst (AllByRecursion H) (sym (same_goals (g.0 ∷ r.0) gs r.2)) hold in
      by (λ e. goal_on (case_formulas a all label) (bodies_of (c ∷ others)) g.0 g.1 held.0 (holds label e)) (λ f. case_on test holds shape rest r.0 r.1 held.1 t f) (test label) refl found
    where
      by : (test label ≡ true → P (flat s ++ bodies_of (items-the_row-Case _ rest))) → (from_case test shape rest ≡ Some t → P (flat t)) → (b : Bool) → test label ≡ b → (if b then Some (Seq' (u ∷ shape) (more_of-Stmt s (bodies rest))) else from_case test shape rest) ≡ Some t → P (flat t)
      by own next true e f = subst P (ap (λ (ss : List Stmt). flat s ++ ss) (bodies_are rest) ∙ ap flat (some_stmt (Seq' (u ∷ shape) (more_of-Stmt s (bodies rest))) t f)) (own e)
      by own next false e f = next f
