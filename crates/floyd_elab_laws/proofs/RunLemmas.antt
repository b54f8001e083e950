-- Runs of statements, one after the other.
use Rattle.std.proofs.Common.{◌≡◌, List, [], ◌∷◌, ◌++◌, Option, Some, None, if◌then◌else◌, refl, ◌∙◌, ap}
use Rattle.std.specs.Prelude.{option_and_then, bytes_eq}
use Rattle.std.proofs.lemmas.Bool.{false_from_ne_true}
use Rattle.std.proofs.lemmas.Slice.Eq.{bytes_eq-Decides}
use denote.Hole.Carrier.{hidden}
use Rattle.floyd_int.specs.declared.kinds.Value.{Value}
use Rattle.floyd_ctypes.specs.Structs.{Structs}
use Rattle.floyd_clight.specs.declared.syntax.Expr.{Expr}
use Rattle.floyd_clight.specs.declared.syntax.Stmt.{Stmt, Seq, If, Row_of-Stmt, end_of-Stmt, more_of-Stmt, items-the_row-Stmt, items_hidden-the_row-Stmt-0}
use Rattle.floyd_clight.specs.declared.syntax.Stmt.TheBlock.{hidden-the_row-Stmt-0, hidden-the_row-Stmt-1, shape-the_row-Stmt-1}
use Rattle.floyd_clight_machine.specs.Evaluation.{Ident, Temps, with_temp, Look, eval_by}
use Rattle.floyd_clight_machine.specs.Machine.{is_true}
use Rattle.floyd_elab_expressions.specs.Clight.{sequence}
use Rattle.floyd_elab_laws.specs.Running.{run, run_rows, run_all}

-- ---- a temporary that was set

pub set_same : (x : Ident) (v : Value) (s : Temps) → with_temp x v s x ≡ v
set_same x v s = ap (λ b. if b then v else s x) ((bytes_eq-Decides x x).1 refl)

pub set_other : (x y : Ident) (v : Value) (s : Temps) → (y ≡ x → ⊥) → with_temp x v s y ≡ s y
set_other x y v s f = ap (λ b. if b then v else s y) (false_from_ne_true (bytes_eq y x) (λ h. f ((bytes_eq-Decides y x).0 h)))

-- ---- statements

then_same : (f g : Temps → Option Temps) (o : Option Temps) → ((u : Temps) → f u ≡ g u) → option_and_then f o ≡ option_and_then g o
then_same f g None h = refl
then_same f g (Some u) h = h u

then_twice : (f g h : Temps → Option Temps) (o : Option Temps) → ((u : Temps) → h u ≡ option_and_then g (f u)) → option_and_then h o ≡ option_and_then g (option_and_then f o)
then_twice f g h None e = refl
then_twice f g h (Some u) e = e u

pub then_some : (o : Option Temps) → o ≡ option_and_then (λ u. Some u) o
then_some None = refl
then_some (Some u) = refl

module _ (structs : Structs) (look : Look) where
  rows_items : {n : _} (row : Row_of-Stmt n) (s : Temps) → run_rows structs look row s ≡ run_all structs look (items-the_row-Stmt n row) s
  rows_items end_of-Stmt s = refl
  rows_items (more_of-Stmt x rest) s = then_same (run_rows structs look rest) (run_all structs look (items-the_row-Stmt _ rest)) (run structs look x s) (λ u. rows_items rest u)

  pub run_seq : (parts : List Stmt) (s : Temps) → run structs look (Seq parts) s ≡ run_all structs look parts s
  run_seq parts s = rows_items (hidden-the_row-Stmt-0 parts) s ∙ ap (λ l. run_all structs look l s) (items_hidden-the_row-Stmt-0 parts)

  pub run_sequence : (parts : List Stmt) (s : Temps) → run structs look (sequence parts) s ≡ run_all structs look parts s
  run_sequence [] s = refl
  run_sequence (x ∷ []) s = then_some (run structs look x s)
  run_sequence (x ∷ y ∷ more) s = run_seq (x ∷ y ∷ more) s

  pub run_append : (a b : List Stmt) (s : Temps) → run_all structs look (a ++ b) s ≡ option_and_then (run_all structs look b) (run_all structs look a s)
  run_append [] b s = refl
  run_append (x ∷ a) b s = then_twice (run_all structs look a) (run_all structs look b) (run_all structs look (a ++ b)) (run structs look x s) (λ u. run_append a b u)

  pub run_if : (e : Expr) (a b : Stmt) (s : Temps) → run structs look (If e a b) s ≡ option_and_then (λ t. if t then run structs look a s else run structs look b s) (option_and_then is_true (eval_by structs look s e))
  unfolding hidden-the_row-Stmt-1 shape-the_row-Stmt-1 hidden
  run_if e a b s = refl
