-- The end of `&&` and `||`.
use Rattle.std.proofs.Common.{◌≡◌, ℕ, List, [], ◌∷◌, ◌++◌, ap, sym, ◌∙◌}
use Rattle.std.specs.Prelude.{Result, Ok}
use Rattle.floyd_text.specs.declared.place.Place.{Place}
use Rattle.floyd_text.specs.declared.refusal.Refusal.{Refusal}
use Rattle.floyd_cparse_trees.specs.declared.expressions.CExpr.{CExpr}
use Rattle.floyd_elab_names.specs.Refusing.{and_then, pure}
use Rattle.floyd_ctyping.specs.Expressions as t
use Rattle.floyd_clight.specs.declared.syntax.Expr.{Expr}
use Rattle.floyd_clight.specs.declared.syntax.Stmt.{Stmt}
use Rattle.floyd_elab_expressions.specs.declared.translation.Translation.{Translation}
use Rattle.floyd_elab_expressions.specs.declared.progress.Progress.{Progress}
use Rattle.floyd_elab_expressions.specs.declared.logic.Logical.{Logical}
use Rattle.floyd_elab_expressions.specs.Clight.{Translated, test_of}
use Rattle.floyd_elab_expressions.specs.Progress.{typing}
use Rattle.floyd_elab_expressions.specs.LogicClauses.{short_circuit}
use Rattle.floyd_elab_expressions.specs.Expressions.{truth}
use Rattle.floyd_elab_expressions.specs.Behind.{behind}
use Rattle.floyd_elab_expressions.proofs.Chains.{goes, typed}

abbrev pub set_for : Logical → Expr → CExpr → List Stmt → Translation → List ℕ → Stmt
set_for op test right before b x = short_circuit op test before (test_of right (behind [] b)) x

pub is_concluded : (place : Place) (op : Logical) (test : Expr) (right : CExpr) (b : Translation) (before there now : List Stmt) (set : Stmt) (x y : List ℕ) (v : Translated) (p : Progress) (u : Unit {0}) → y ≡ x → t.check_test place b.operand p.tags ≡ Ok (u, p.tags) → set ≡ set_for op test right before b x → now ≡ there ++ set ∷ [] → v ≡ truth y now → and_then (typing (t.check_test place b.operand) p) (λ w. pure {S = Progress} (truth x (there ++ set_for op test right before b x ∷ []))) ≡ Ok (v, p)
is_concluded place op test right b before there now set x y v p u named e made pushed is =
    goes (typing (t.check_test place b.operand) p) (λ w. pure {S = Progress} (truth x (there ++ set_for op test right before b x ∷ []))) u p
    (typed (t.check_test place b.operand) p u e)
    ∙ ap (λ (l : Translated). let answer : Result (Translated × Progress) Refusal = Ok (l, p) in answer)
    (ap (λ (s : Stmt). truth x (there ++ s ∷ [])) (sym made)
    ∙ ap (λ (l : List Stmt). truth x l) (sym pushed)
    ∙ ap (λ (z : List ℕ). truth z now) (sym named)
    ∙ sym is)
