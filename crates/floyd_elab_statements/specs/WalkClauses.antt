-- Statements as a walk makes them, one item after the other.
use Rattle.std.specs.Prelude.{ℕ, Bool, List, [], ◌∷◌, ◌++◌, Result, Ok, Err, Some}
use Rattle.floyd_text.specs.declared.place.Place.{Place}
use Rattle.floyd_text.specs.declared.refusal.Refusal.{Refusal}
use Rattle.floyd_int.specs.declared.kinds.IntKind.{IntKind}
use Rattle.floyd_ctypes.specs.declared.ctype.CType.{CType, Int}
use Rattle.floyd_cparse_trees.specs.declared.expressions.CExpr.{CExpr}
use Rattle.floyd_cparse_trees.specs.declared.statements.BlockItem as i
use Rattle.floyd_cparse_trees.specs.declared.statements.SwitchCase.{SwitchCase}
use Rattle.floyd_elab_names.specs.Refusing.{◌>>=◌, ◌>>◌, pure, unless}
use Rattle.floyd_elab_names.specs.Refusals.{ill_typed}
use Rattle.floyd_elab_names.specs.Scopes.{Scopes}
use Rattle.floyd_ctyping.specs.Operators as o
use Rattle.floyd_ctyping.specs.Expressions.{check_test}
use Rattle.floyd_ctyping.specs.Switches.{Labels, with_label, next_label, switch_kind}
use Rattle.floyd_clight.specs.declared.syntax.Case.{Case}
use Rattle.floyd_clight.specs.declared.syntax.Expr.{Expr}
use Rattle.floyd_clight.specs.declared.syntax.Stmt as s
use Rattle.floyd_clight.specs.declared.syntax.Stmt.{Stmt}
use Rattle.floyd_elab_expressions.specs.Clight.{Translated, sequence, test_of, cast_into}
use Rattle.floyd_elab_expressions.specs.Progress.{Elaborating, typing}
use Rattle.floyd_elab_addresses.specs.PartClauses.{in_all}
use Rattle.floyd_elab_statements.specs.LocalClauses.{declaration}
use Rattle.floyd_elab_statements.specs.Statements.{statement}

module _ (result : CType) where
  -- an item and the scopes behind it, of which `rest` says for a name whether its address is taken there
  abbrev pub item : Scopes → i.BlockItem → (List ℕ → Bool) → Elaborating (List Stmt × Scopes)
  item scopes (i.Declaration d) rest = declaration scopes d rest
  item scopes (i.Statement a) rest = do
    first ← statement result scopes a
    pure (first, scopes)

  abbrev pub all_items : Scopes → List i.BlockItem → Elaborating (List Stmt)
  all_items scopes [] = pure []
  all_items scopes (one ∷ rest) = do
    made ← item scopes one (λ x. in_all x rest)
    more ← all_items made.1 rest
    pure (made.0 ++ more)

  -- a case of a switch of that kind, behind those labels
  abbrev pub one_case : Scopes → IntKind → Labels → SwitchCase → Elaborating Case
  one_case scopes kind before one = do
    bits ← typing (next_label kind before one.label)
    first ← statement result scopes one.body
    pure (record { label = bits; body = sequence first })

  abbrev pub all_cases : Scopes → IntKind → Labels → List SwitchCase → Elaborating (List Case)
  all_cases scopes kind before [] = pure []
  all_cases scopes kind before (one ∷ rest) = do
    made ← one_case scopes kind before one
    more ← all_cases scopes kind (with_label before made.label) rest
    pure (made ∷ more)

-- cases behind those that were there before
abbrev pub cases_behind : {S : Type 0} → List Case → Result (List Case × S) Refusal → Result (List Case × S) Refusal
cases_behind there (Ok r) = Ok (there ++ r.0, r.1)
cases_behind there (Err refusal) = Err refusal

-- statements as one, behind those that stand before them
abbrev pub sequence_behind : {S : Type 0} → List Stmt → Result (List Stmt × S) Refusal → Result (Stmt × S) Refusal
sequence_behind before (Ok r) = Ok (sequence (before ++ r.0), r.1)
sequence_behind before (Err refusal) = Err refusal

-- an `if` of that test and that first branch behind those that were there before
abbrev pub with_else : {S : Type 0} → List Stmt → Expr → Stmt → Result (Stmt × S) Refusal → Result (List Stmt × S) Refusal
with_else there test first (Ok r) = Ok (there ++ s.If test first r.0 ∷ [], r.1)
with_else there test first (Err refusal) = Err refusal

-- one statement behind those that were there before
abbrev pub with_one : {S : Type 0} → List Stmt → Stmt → S → Result (List Stmt × S) Refusal
with_one there one progress = Ok (there ++ one ∷ [], progress)

-- the test of what was translated
abbrev pub judge_test : Place → CExpr → Translated → Elaborating (List Stmt × Expr)
judge_test place e a = do
  typing (check_test place a.operand)
  pure (a.before, test_of e a)

-- what a switch looks at, of what was translated
abbrev pub select : Place → Translated → Elaborating (List Stmt × (Expr × IntKind))
select place a = do
  kind ← typing (switch_kind place a.operand)
  pure (a.before, (cast_into (Int kind) a, kind))

-- `return` of what was translated, in a function of that result
abbrev pub send_back : CType → Place → Translated → Elaborating (List Stmt)
send_back result place a = do
  unless (ill_typed place) (o.fits_into result a.operand)
  pure (a.before ++ s.Return (Some (cast_into result a)) ∷ [])
