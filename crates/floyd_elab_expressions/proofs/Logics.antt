-- `&&`, `||` and `?:` by what their parts gave.
use Rattle.std.proofs.Common.{◌≡◌, ℕ, List, [], ◌∷◌, ◌++◌, ap, sym}
use Rattle.std.specs.Prelude.{Result, Ok}
use Rattle.std.proofs.lemmas.List.{append_assoc}
use Rattle.floyd_text.specs.declared.place.Place.{Place}
use Rattle.floyd_text.specs.declared.refusal.Refusal.{Refusal}
use Rattle.floyd_cparse_trees.specs.declared.expressions.CExpr.{CExpr}
use Rattle.floyd_elab_names.specs.Refusing.{pure}
use Rattle.floyd_elab_names.specs.Scopes.{Scopes}
use Rattle.floyd_elab_names.specs.Types.{int_type}
use Rattle.floyd_ctyping.specs.Operators as o
use Rattle.floyd_ctyping.specs.Expressions as t
use Rattle.floyd_clight.specs.declared.syntax.Expr.{Expr, Temp}
use Rattle.floyd_clight.specs.declared.syntax.Stmt.{Stmt, If}
use Rattle.floyd_elab_expressions.specs.declared.progress.Progress.{Progress}
use Rattle.floyd_elab_expressions.specs.declared.logic.Logical.{Logical}
use Rattle.floyd_elab_expressions.specs.Clight.{Translated, test_of, pulled_name}
use Rattle.floyd_elab_expressions.specs.Progress.{typing, draw, pull, add_temporary}
use Rattle.floyd_elab_expressions.specs.LogicClauses.{short_circuit}
use Rattle.floyd_elab_expressions.specs.Expressions.{rvalue, truth, branch, conditional_result}
use Rattle.floyd_elab_expressions.specs.Behind.{onto}
use Rattle.floyd_elab_expressions.proofs.Chains.{onto_through}
use Rattle.floyd_elab_expressions.proofs.Naturals.{IsNatural}
use Rattle.floyd_elab_expressions.proofs.Bridges.{tested_then, branches}

pub natural_tested : (s : Scopes) (op : Logical) (left : CExpr) (place : Place) (right : CExpr) → IsNatural (tested_then s op left place right)
natural_tested s op left place right there a p =
    onto_through there (typing (t.check_test place a.operand) p) _ _ (λ u p1.
    onto_through there (pull int_type p1) _ _ (λ x p2.
    onto_through there (rvalue s right p2) _ _ (λ b p3.
    onto_through there (typing (t.check_test place b.operand) p3)
    (λ v. pure {S = Progress} (truth x (a.before ++ short_circuit op (test_of left a) b.before (test_of right b) x ∷ [])))
    (λ v. pure {S = Progress} (truth x ((there ++ a.before) ++ short_circuit op (test_of left a) b.before (test_of right b) x ∷ []))) (λ v p4.
    ap (λ (l : List Stmt). let made : Result (Translated × Progress) Refusal = Ok (truth x l, p4) in made)
    (sym (append_assoc there a.before (short_circuit op (test_of left a) b.before (test_of right b) x ∷ [])))))))

natural_chosen : (place : Place) (k : ℕ) (there before : List Stmt) (test : Expr) (a b : Translated) (p : Progress) → onto there (conditional_result place k before test a b p) ≡ conditional_result place k (there ++ before) test a b p
natural_chosen place k there before test a b p =
    onto_through there (typing (t.gives_value place (o.common_type a.operand b.operand)) p) _ _ (λ r p1.
    let branches : Stmt = If test (branch (pulled_name k) r.ctype a) (branch (pulled_name k) r.ctype b) in
    let made = λ (l : List Stmt). let made : Translated = record { before = l; expr = Temp (pulled_name k) r.ctype; operand = r } in made in
    onto_through there (add_temporary (pulled_name k) r.ctype p1) (λ u. pure {S = Progress} (made (before ++ branches ∷ []))) (λ u. pure {S = Progress} (made ((there ++ before) ++ branches ∷ []))) (λ u p2.
    ap (λ (l : List Stmt). let made : Result (Translated × Progress) Refusal = Ok (record { before = l; expr = Temp (pulled_name k) r.ctype; operand = r }, p2) in made)
    (sym (append_assoc there before (If test (branch (pulled_name k) r.ctype a) (branch (pulled_name k) r.ctype b) ∷ [])))))

pub natural_branches : (s : Scopes) (test : CExpr) (place : Place) (one other : CExpr) → IsNatural (branches s test place one other)
natural_branches s test place one other there c p =
    onto_through there (typing (t.check_test place c.operand) p) _ _ (λ u p1.
    onto_through there (draw p1) _ _ (λ k p2.
    onto_through there (rvalue s one p2) _ _ (λ a p3.
    onto_through there (rvalue s other p3) _ _ (λ b p4.
    natural_chosen place k there c.before (test_of test c) a b p4))))
