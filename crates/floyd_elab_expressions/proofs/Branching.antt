-- `&&`, `||` and `?:`, step by step.
use Rattle.std.proofs.Common.{◌≡◌, ℕ, List, [], ◌∷◌, ◌++◌, ap, sym, ◌∙◌, subst}
use Rattle.std.specs.Prelude.{Result, Ok}
use Rattle.std.specs.Result.{IsErrAnd}
use Rattle.floyd_text.specs.declared.place.Place.{Place}
use Rattle.floyd_text.specs.declared.refusal.Refusal.{Refusal}
use Rattle.floyd_text.specs.declared.refusal.Halt.{Halt}
use Rattle.floyd_text.specs.Gives.{Stops}
use Rattle.floyd_cparse_trees.specs.declared.expressions.CExpr.{CExpr, Binary, Conditional}
use Rattle.floyd_elab_names.specs.Refusing.{and_then, ◌>>=◌, ◌>>◌, pure}
use Rattle.floyd_elab_names.specs.Scopes.{Scopes}
use Rattle.floyd_elab_names.specs.Types.{int_type}
use Rattle.floyd_ctyping.specs.Expressions as t
use Rattle.floyd_clight.specs.declared.syntax.Expr.{Expr}
use Rattle.floyd_clight.specs.declared.syntax.Stmt.{Stmt}
use Rattle.floyd_elab_expressions.specs.declared.translation.Translation.{Translation}
use Rattle.floyd_elab_expressions.specs.declared.progress.Progress.{Progress}
use Rattle.floyd_elab_expressions.specs.declared.logic.Logical.{Logical}
use Rattle.floyd_elab_expressions.specs.Clight.{Translated, test_of}
use Rattle.floyd_elab_expressions.specs.Progress.{Elaborating, typing, draw, pull}
use Rattle.floyd_elab_expressions.specs.LogicClauses.{op_of, short_circuit}
use Rattle.floyd_elab_expressions.specs.Expressions.{expression, rvalue, truth, conditional_result}
use Rattle.floyd_elab_expressions.specs.Behind.{onto}
use Rattle.floyd_elab_expressions.proofs.Chains.{goes, stops, onto_nothing}
use Rattle.floyd_elab_expressions.proofs.Bridges.{tested_then, branches, of_logical, of_conditional}
use Rattle.floyd_elab_expressions.proofs.Operations.{one_goes, one_stops}
use Rattle.floyd_elab_expressions.proofs.Logics.{natural_tested, natural_branches}
use Rattle.floyd_elab_expressions.proofs.Answering.{Answers, answers_as, answers_stopped, in_two}

-- A part behind no statements.

pub alone : (l : List Stmt) (r v : Result (Translated × Progress) Refusal) → l ≡ [] → onto l r ≡ v → r ≡ v
alone l r v none e = sym (onto_nothing r) ∙ ap (λ (z : List Stmt). onto z r) (sym none) ∙ e

pub alone_stops : (l : List Stmt) (r : Result (Translated × Progress) Refusal) (h : Halt) → l ≡ [] → Stops h (onto l r) → Stops h r
alone_stops l r h none e = subst (Stops h) (ap (λ (z : List Stmt). onto z r) none ∙ onto_nothing r) e

module _ (s : Scopes) (op : Logical) (left : CExpr) (place : Place) (right : CExpr) where
  abbrev pub wanted : List Stmt → Progress → Result (Translated × Progress) Refusal
  wanted there p = onto there (expression s (Binary left (op_of op) place right) p)

  abbrev pub pulling : Translated → Elaborating (List ℕ)
  pulling a = typing (t.check_test place a.operand) >> pull int_type

  -- with the first test as it was made
  abbrev pub at_end_by : Expr → Translated → List ℕ → Translated → Elaborating Translated
  at_end_by test a x b = typing (t.check_test place b.operand) >> pure (truth x (a.before ++ short_circuit op test b.before (test_of right b) x ∷ []))

  abbrev pub at_end : Translated → List ℕ → Translated → Elaborating Translated
  at_end a x b = at_end_by (test_of left a) a x b

  abbrev pub at_right : Translated → List ℕ → Elaborating Translated
  at_right a x = rvalue s right >>= at_end a x

  first_done : (there : List Stmt) (p q : Progress) (a : Translated) → onto there (rvalue s left p) ≡ Ok (a, q) → wanted there p ≡ and_then (pulling a q) (at_right a)
  first_done there p q a e =
      ap (λ (k : Elaborating Translated). onto there (k p)) (of_logical s op left place right)
      ∙ one_goes (rvalue s left) (tested_then s op left place right) (natural_tested s op left place right) there p q a e
      ∙ sym (in_two (typing (t.check_test place a.operand) q) (λ u. pull int_type) (at_right a))

  second_done : (there : List Stmt) (p q q1 : Progress) (a : Translated) (x : List ℕ) → onto there (rvalue s left p) ≡ Ok (a, q) → pulling a q ≡ Ok (x, q1) → wanted there p ≡ and_then (rvalue s right q1) (at_end a x)
  second_done there p q q1 a x e g = first_done there p q a e ∙ goes (pulling a q) (at_right a) x q1 g

  pub logical_first : (there : List Stmt) (p : Progress) (h : Halt) (r : Result Translation Halt) (out : List Stmt) (kept : Progress) → IsErrAnd r (λ x. x ≡ h) → Stops h (onto there (rvalue s left p)) → Answers r out kept (wanted there p)
  logical_first there p h r out kept err e =
      answers_as r out kept _ _ (ap (λ (k : Elaborating Translated). onto there (k p)) (of_logical s op left place right))
      (answers_stopped r h out kept _ err (one_stops (rvalue s left) (tested_then s op left place right) (natural_tested s op left place right) there p h e))

  pub logical_pulling : (there : List Stmt) (p q : Progress) (a : Translated) (h : Halt) (r : Result Translation Halt) (out : List Stmt) (kept : Progress) → onto there (rvalue s left p) ≡ Ok (a, q) → IsErrAnd r (λ x. x ≡ h) → Stops h (pulling a q) → Answers r out kept (wanted there p)
  logical_pulling there p q a h r out kept e err g =
      answers_as r out kept _ _ (first_done there p q a e) (answers_stopped r h out kept _ err (stops h (pulling a q) (at_right a) g))

  pub logical_second : (there l : List Stmt) (p q q1 : Progress) (a : Translated) (x : List ℕ) (h : Halt) (r : Result Translation Halt) (out : List Stmt) (kept : Progress) → onto there (rvalue s left p) ≡ Ok (a, q) → pulling a q ≡ Ok (x, q1) → l ≡ [] → IsErrAnd r (λ x. x ≡ h) → Stops h (onto l (rvalue s right q1)) → Answers r out kept (wanted there p)
  logical_second there l p q q1 a x h r out kept e g none err f =
      answers_as r out kept _ _ (second_done there p q q1 a x e g)
      (answers_stopped r h out kept _ err (stops h (rvalue s right q1) (at_end a x) (alone_stops l (rvalue s right q1) h none f)))

  pub logical_ends : (there l : List Stmt) (p q q1 q2 : Progress) (a : Translated) (x : List ℕ) (b : Translated) (r : Result Translation Halt) (out : List Stmt) (kept : Progress) (test : Expr) → onto there (rvalue s left p) ≡ Ok (a, q) → pulling a q ≡ Ok (x, q1) → l ≡ [] → onto l (rvalue s right q1) ≡ Ok (b, q2) → test ≡ test_of left a → Answers r out kept (at_end_by test a x b q2) → Answers r out kept (wanted there p)
  logical_ends there l p q q1 q2 a x b r out kept test e g none f same h =
      answers_as r out kept _ _ (second_done there p q q1 a x e g ∙ goes (rvalue s right q1) (at_end a x) b q2 (alone l (rvalue s right q1) _ none f))
      (subst (λ (z : Expr). Answers r out kept (at_end_by z a x b q2)) same h)

module _ (s : Scopes) (test : CExpr) (place : Place) (one other : CExpr) where
  abbrev pub choice : List Stmt → Progress → Result (Translated × Progress) Refusal
  choice there p = onto there (expression s (Conditional test place one other) p)

  abbrev pub drawing : Translated → Elaborating ℕ
  drawing c = typing (t.check_test place c.operand) >> draw

  abbrev pub at_chosen : Translated → ℕ → Translated → Translated → Elaborating Translated
  at_chosen c k a b = conditional_result place k c.before (test_of test c) a b

  abbrev pub at_other : Translated → ℕ → Translated → Elaborating Translated
  at_other c k a = rvalue s other >>= at_chosen c k a

  abbrev pub at_one : Translated → ℕ → Elaborating Translated
  at_one c k = rvalue s one >>= at_other c k

  test_done : (there : List Stmt) (p q : Progress) (c : Translated) → onto there (rvalue s test p) ≡ Ok (c, q) → choice there p ≡ and_then (drawing c q) (at_one c)
  test_done there p q c e =
      ap (λ (k : Elaborating Translated). onto there (k p)) (of_conditional s test place one other)
      ∙ one_goes (rvalue s test) (branches s test place one other) (natural_branches s test place one other) there p q c e
      ∙ sym (in_two (typing (t.check_test place c.operand) q) (λ u. draw) (at_one c))

  draw_done : (there : List Stmt) (p q q1 : Progress) (c : Translated) (k : ℕ) → onto there (rvalue s test p) ≡ Ok (c, q) → drawing c q ≡ Ok (k, q1) → choice there p ≡ and_then (rvalue s one q1) (at_other c k)
  draw_done there p q q1 c k e g = test_done there p q c e ∙ goes (drawing c q) (at_one c) k q1 g

  one_done : (there l : List Stmt) (p q q1 q2 : Progress) (c : Translated) (k : ℕ) (a : Translated) → onto there (rvalue s test p) ≡ Ok (c, q) → drawing c q ≡ Ok (k, q1) → l ≡ [] → onto l (rvalue s one q1) ≡ Ok (a, q2) → choice there p ≡ and_then (rvalue s other q2) (at_chosen c k a)
  one_done there l p q q1 q2 c k a e g none f = draw_done there p q q1 c k e g ∙ goes (rvalue s one q1) (at_other c k) a q2 (alone l (rvalue s one q1) _ none f)

  pub conditional_first : (there : List Stmt) (p : Progress) (h : Halt) (r : Result Translation Halt) (out : List Stmt) (kept : Progress) → IsErrAnd r (λ x. x ≡ h) → Stops h (onto there (rvalue s test p)) → Answers r out kept (choice there p)
  conditional_first there p h r out kept err e =
      answers_as r out kept _ _ (ap (λ (k : Elaborating Translated). onto there (k p)) (of_conditional s test place one other))
      (answers_stopped r h out kept _ err (one_stops (rvalue s test) (branches s test place one other) (natural_branches s test place one other) there p h e))

  pub conditional_drawing : (there : List Stmt) (p q : Progress) (c : Translated) (h : Halt) (r : Result Translation Halt) (out : List Stmt) (kept : Progress) → onto there (rvalue s test p) ≡ Ok (c, q) → IsErrAnd r (λ x. x ≡ h) → Stops h (drawing c q) → Answers r out kept (choice there p)
  conditional_drawing there p q c h r out kept e err g =
      answers_as r out kept _ _ (test_done there p q c e) (answers_stopped r h out kept _ err (stops h (drawing c q) (at_one c) g))

  pub conditional_one : (there l : List Stmt) (p q q1 : Progress) (c : Translated) (k : ℕ) (h : Halt) (r : Result Translation Halt) (out : List Stmt) (kept : Progress) → onto there (rvalue s test p) ≡ Ok (c, q) → drawing c q ≡ Ok (k, q1) → l ≡ [] → IsErrAnd r (λ x. x ≡ h) → Stops h (onto l (rvalue s one q1)) → Answers r out kept (choice there p)
  conditional_one there l p q q1 c k h r out kept e g none err f =
      answers_as r out kept _ _ (draw_done there p q q1 c k e g)
      (answers_stopped r h out kept _ err (stops h (rvalue s one q1) (at_other c k) (alone_stops l (rvalue s one q1) h none f)))

  pub conditional_other : (there l n : List Stmt) (p q q1 q2 : Progress) (c : Translated) (k : ℕ) (a : Translated) (h : Halt) (r : Result Translation Halt) (out : List Stmt) (kept : Progress) → onto there (rvalue s test p) ≡ Ok (c, q) → drawing c q ≡ Ok (k, q1) → l ≡ [] → onto l (rvalue s one q1) ≡ Ok (a, q2) → n ≡ [] → IsErrAnd r (λ x. x ≡ h) → Stops h (onto n (rvalue s other q2)) → Answers r out kept (choice there p)
  conditional_other there l n p q q1 q2 c k a h r out kept e g none f none1 err f1 =
      answers_as r out kept _ _ (one_done there l p q q1 q2 c k a e g none f)
      (answers_stopped r h out kept _ err (stops h (rvalue s other q2) (at_chosen c k a) (alone_stops n (rvalue s other q2) h none1 f1)))

  pub conditional_ends : (there l n : List Stmt) (p q q1 q2 q3 : Progress) (c : Translated) (k : ℕ) (a b : Translated) (r : Result Translation Halt) (out : List Stmt) (kept : Progress) (made : Expr) → onto there (rvalue s test p) ≡ Ok (c, q) → drawing c q ≡ Ok (k, q1) → l ≡ [] → onto l (rvalue s one q1) ≡ Ok (a, q2) → n ≡ [] → onto n (rvalue s other q2) ≡ Ok (b, q3) → made ≡ test_of test c → Answers r out kept (conditional_result place k c.before made a b q3) → Answers r out kept (choice there p)
  conditional_ends there l n p q q1 q2 q3 c k a b r out kept made e g none f none1 f1 same h =
      answers_as r out kept _ _ (one_done there l p q q1 q2 c k a e g none f ∙ goes (rvalue s other q2) (at_chosen c k a) b q3 (alone n (rvalue s other q2) _ none1 f1))
      (subst (λ (z : Expr). Answers r out kept (conditional_result place k c.before z a b q3)) same h)
