-- Tests of statements, and `return`.
use Rattle.std.proofs.Common.{◌≡◌, Bool, true, false, List, [], ◌∷◌, ◌++◌, ap, sym, ◌∙◌}
use Rattle.std.specs.Prelude.{not, Some, Result, Ok, Err}
use Rattle.floyd_text.specs.declared.place.Place.{Place}
use Rattle.floyd_text.specs.declared.refusal.Refusal.{Refusal}
use Rattle.floyd_text.specs.declared.refusal.Halt.{Halt}
use Rattle.floyd_text.specs.Gives.{Stops}
use Rattle.floyd_int.specs.declared.kinds.IntKind.{IntKind}
use Rattle.floyd_ctypes.specs.declared.ctype.CType.{CType, Int}
use Rattle.floyd_cparse_trees.specs.declared.expressions.CExpr.{CExpr}
use Rattle.floyd_elab_names.specs.Refusing.{and_then, unless}
use Rattle.floyd_elab_names.specs.Refusals.{ill_typed}
use Rattle.floyd_elab_names.specs.Scopes.{Scopes}
use Rattle.floyd_elab_names.specs.Types.{is_void}
use Rattle.floyd_ctyping.specs.Operators as o
use Rattle.floyd_ctyping.specs.Expressions.{check_test}
use Rattle.floyd_ctyping.specs.Switches.{switch_kind}
use Rattle.floyd_clight.specs.declared.syntax.Expr.{Expr}
use Rattle.floyd_clight.specs.declared.syntax.Stmt as s
use Rattle.floyd_clight.specs.declared.syntax.Stmt.{Stmt}
use Rattle.floyd_elab_expressions.specs.declared.progress.Progress.{Progress}
use Rattle.floyd_elab_expressions.specs.Behind.{onto, put_behind}
use Rattle.floyd_elab_expressions.specs.Clight.{Translated, test_of, cast_into}
use Rattle.floyd_elab_expressions.specs.Progress.{Elaborating, typing}
use Rattle.floyd_elab_expressions.specs.Expressions.{rvalue}
use Rattle.floyd_elab_effects.specs.Effects.{right_side}
use Rattle.floyd_elab_statements.specs.LocalClauses.{beginning}
use Rattle.floyd_elab_statements.specs.Statements.{test, selector, loop_test, return_statement}
use Rattle.floyd_elab_statements.specs.WalkClauses.{judge_test, select, send_back}
use Rattle.floyd_elab_statements.proofs.Steps.{goes, stops, stops_as}
use Rattle.floyd_elab_statements.proofs.Walking.{beside_value, through_value, through_begun, judged_beside, found_beside, judged_behind, pushed_behind}

module _ (scopes : Scopes) (place : Place) (e : CExpr) (there : List Stmt) (p : Progress) where
  test_is : beginning there (test scopes place e p) ≡ and_then (onto there (rvalue scopes e p)) (judge_test place e)
  test_is = beside_value there (rvalue scopes e p) (judge_test place e) (λ a q. judged_beside there a.before (typing (check_test place a.operand) q) (test_of e a))

  pub test_unread : (h : Halt) → Stops h (onto there (rvalue scopes e p)) → Stops h (beginning there (test scopes place e p))
  test_unread h e1 = stops_as h _ _ test_is (stops h (onto there (rvalue scopes e p)) (judge_test place e) e1)

  pub test_read : (a : Translated) (q : Progress) → onto there (rvalue scopes e p) ≡ Ok (a, q) → beginning there (test scopes place e p) ≡ judge_test place e a q
  test_read a q e1 = test_is ∙ goes (onto there (rvalue scopes e p)) (judge_test place e) a q e1

  selector_is : beginning there (selector scopes place e p) ≡ and_then (onto there (rvalue scopes e p)) (select place)
  selector_is = beside_value there (rvalue scopes e p) (select place) (λ a q. found_beside there a.before (typing (switch_kind place a.operand) q) (λ (kind : IntKind). (cast_into (Int kind) a, kind)))

  pub selector_unread : (h : Halt) → Stops h (onto there (rvalue scopes e p)) → Stops h (beginning there (selector scopes place e p))
  selector_unread h e1 = stops_as h _ _ selector_is (stops h (onto there (rvalue scopes e p)) (select place) e1)

  pub selector_read : (a : Translated) (q : Progress) → onto there (rvalue scopes e p) ≡ Ok (a, q) → beginning there (selector scopes place e p) ≡ select place a q
  selector_read a q e1 = selector_is ∙ goes (onto there (rvalue scopes e p)) (select place) a q e1

  abbrev loop_end : List Stmt × Expr → Elaborating (List Stmt)
  loop_end t q = Ok (t.0 ++ s.If t.1 s.Skip s.Break ∷ [], q)

  loop_test_is : put_behind there (loop_test scopes place e p) ≡ and_then (beginning there (test scopes place e p)) loop_end
  loop_test_is = through_begun there (test scopes place e p) loop_end loop_end (λ t q. pushed_behind there t.0 (s.If t.1 s.Skip s.Break) q)

  pub loop_test_stops : (h : Halt) → Stops h (beginning there (test scopes place e p)) → Stops h (put_behind there (loop_test scopes place e p))
  loop_test_stops h e1 = stops_as h _ _ loop_test_is (stops h (beginning there (test scopes place e p)) loop_end e1)

  pub loop_test_goes : (mid out : List Stmt) (x y : Expr) (q : Progress) → beginning there (test scopes place e p) ≡ Ok ((mid, x), q) → y ≡ x → out ≡ mid ++ s.If y s.Skip s.Break ∷ []
      → put_behind there (loop_test scopes place e p) ≡ Ok (out, q)
  loop_test_goes mid out x y q made same pushed =
      loop_test_is
      ∙ goes (beginning there (test scopes place e p)) loop_end (mid, x) q made
      ∙ ap (λ (l : List Stmt). let answer : Result (List Stmt × Progress) Refusal = Ok (l, q) in answer) (ap (λ (z : Expr). mid ++ s.If z s.Skip s.Break ∷ []) (sym same) ∙ sym pushed)

-- `return` with a value.

module _ (scopes : Scopes) (result : CType) (place : Place) (e : CExpr) (there : List Stmt) (p : Progress) where
  abbrev return_when : Bool → Result (List Stmt × Progress) Refusal
  return_when b = and_then (unless (ill_typed place) (not b) p) (λ _ q. and_then (right_side scopes e q) (send_back result place))

  pub void_stops : is_void result ≡ true → put_behind there (return_statement scopes result place (Some e) p) ≡ Err (ill_typed place)
  void_stops void = ap (λ b. put_behind there (return_when b)) void

  module _ (some : is_void result ≡ false) where
    return_is : put_behind there (return_statement scopes result place (Some e) p) ≡ and_then (onto there (right_side scopes e p)) (send_back result place)
    return_is =
        ap (λ b. put_behind there (return_when b)) some
        ∙ through_value there (right_side scopes e p) (send_back result place)
        (λ a q. judged_behind there a.before (unless (ill_typed place) (o.fits_into result a.operand) q) (s.Return (Some (cast_into result a))))

    pub return_stops : (h : Halt) → Stops h (onto there (right_side scopes e p)) → Stops h (put_behind there (return_statement scopes result place (Some e) p))
    return_stops h e1 = stops_as h _ _ return_is (stops h (onto there (right_side scopes e p)) (send_back result place) e1)

    pub return_read : (a : Translated) (q : Progress) → onto there (right_side scopes e p) ≡ Ok (a, q) → put_behind there (return_statement scopes result place (Some e) p) ≡ send_back result place a q
    return_read a q e1 = return_is ∙ goes (onto there (right_side scopes e p)) (send_back result place) a q e1
